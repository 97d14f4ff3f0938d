-- What is young enough not to be asked for again.
use Rattle.std.specs.Prelude.{◌≡◌, ℕ, Bool, true, false, Option, Some, None, ◌-◌, ◌==◌, ◌&&◌, if◌then◌else◌, length, nat_lt, not}
use Rattle.std.specs.List.{list_any}
use Rattle.std.specs.Option.{option_map_or}
use Rattle.std.specs.FinMap as map
use Rattle.memento_sets.specs.Sets as set
use Rattle.memento_sets.specs.MementoSets.{Mementos}
use Rattle.harvest_lattice.specs.Lattice.{Kept, whole}
use Rattle.service_settings.specs.declared.timing.Timing.{Timing}

-- What was looked at in a second is less than so many seconds old. What a clock that is ahead tells is as young if
-- it is as little ahead, so that a clock that was years ahead once is not believed for years.
abbrev pub is_young : ℕ → ℕ → Option ℕ → Bool
is_young seen now seconds = option_map_or (λ most. nat_lt (now - seen) most && nat_lt (seen - now) most) seconds false

-- a revision has a memento
abbrev pub has_some : ℕ × Mementos → Bool
has_some revision = not (length (set.items revision.1) == 0)

-- one of the revisions does that are kept of an archive and original
abbrev pub has_mementos : Kept → Bool
has_mementos kept = list_any has_some (map.entries kept.revisions)

-- what is kept has a whole harvest that is young, by what the settings say of what has mementos, or has none
abbrev pub is_fresh : Timing → Kept → ℕ → Bool
is_fresh timing kept now =
    option_map_or (λ seen. is_young seen now (if has_mementos kept then timing.again else timing.again_none)) (whole kept) false

-- what was looked at in second 100, where a minute is young enough
pub record AreYoung : Type 0 where
  pub young : is_young 100 159 (Some 60) ≡ true
  pub old : is_young 100 160 (Some 60) ≡ false
  pub a_little_ahead : is_young 100 41 (Some 60) ≡ true
  pub far_ahead : is_young 100 40 (Some 60) ≡ false
  pub never : is_young 100 100 None ≡ false
