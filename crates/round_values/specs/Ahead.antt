-- Which harvests are taken: those that aren't too far ahead of the clock.
use Rattle.std.specs.Prelude.{◌≡◌, ℕ, ◌+◌, ◌-◌, ◌^◌, min, Bool, not, nat_lt, List, length, Option, Some, None}
use Rattle.std.specs.List.{filter}
use Rattle.std.specs.FinMap as map
use Rattle.memento_sets.specs.MementoSets.{Mementos}
use Rattle.harvest_lattice.specs.Lattice.{Key, Kept, Entries, AtMost, join}
use Rattle.harvest_lattice.specs.Knowledge.{Harvested, adds, harvests_at, lat}

-- the last second whose harvests are taken: so many seconds ahead of now, as far as 64 bits count; all are without a
-- limit
abbrev pub last_taken : Option ℕ → ℕ → ℕ
last_taken None now = 2 ^ 64 - 1
last_taken (Some seconds) now = min (now + seconds) (2 ^ 64 - 1)

-- a harvest of this revision isn't taken
abbrev pub is_ahead : ℕ → ℕ → Bool
is_ahead last revision = nat_lt last revision

-- the harvests that are taken
abbrev pub not_ahead : ℕ → List Harvested → List Harvested
not_ahead last hs = filter (λ h. not (is_ahead last h.revision)) hs

-- the state of those harvests of a state that are taken
abbrev pub taken : ℕ → Entries → Entries
taken last x = lat (not_ahead last (adds x))

-- the same of one entry
abbrev pub taken_of : ℕ → Key → Kept → Entries
taken_of last key kept = lat (not_ahead last (harvests_at key kept.is_whole (map.entries kept.revisions)))

-- how many harvests of a state aren't taken
abbrev pub left_out : ℕ → Entries → ℕ
left_out last x = length (filter (λ h. is_ahead last h.revision) (adds x))

-- the harvest of one revision, whole or not
abbrev pub harvest_of : Key → Bool → ℕ × Mementos → Harvested
harvest_of key is_whole part = record {
  archive = key.0;
  original = key.1;
  revision = part.0;
  is_whole = is_whole;
  mementos = part.1;
}

-- What is taken of a state is at most the state, and with the state it is the state; where nothing is ahead it is the
-- state itself.
pub record IsTimely : Type 0 where
  pub at_most : (last : ℕ) (x : Entries) → AtMost (taken last x) x
  pub all : (last : ℕ) (x : Entries) → left_out last x ≡ 0 → taken last x ≡ x
  pub then_all : (last : ℕ) (x : Entries) → join (taken last x) x ≡ x
