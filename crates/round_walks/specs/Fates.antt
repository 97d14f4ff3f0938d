-- What becomes of what walks brought.
use Rattle.std.specs.Prelude.{◌≡◌, ℕ, Bool, true, false, [], length, Option, is_some, Result, Ok, Err}
use Rattle.memento_sets.specs.Sets as set
use Rattle.harvest_lattice.specs.Knowledge.{Harvested, shown_of}
use Rattle.memento_index.specs.declared.merge.Merge.TheVariants.{Harvest}
use Rattle.harvester.specs.declared.faults.WalkFault.{WalkFault}
use Rattle.harvest_workers.specs.declared.errands.Errand.{Errand}
use Rattle.harvest_workers.specs.declared.errands.Errand.TheVariants.{Round, Wish}
use Rattle.published_index.specs.Cursors.{with_merge}
use Rattle.published_index.specs.Views.{MergerView}
use Rattle.retention.specs.Rules.{Withdrawal}
use Rattle.forgetting.specs.Renewing.{HasRoom, is_withdrawn_by, known}
use Rattle.forgetting.specs.declared.standing.Forgetting.{Forgetting}
use Rattle.round_values.specs.Ahead.{is_ahead, last_taken}
use Rattle.service_settings.specs.declared.settings.Settings.{Settings}
use Rattle.round_walks.specs.declared.fates.Fate.{Fate}
use Rattle.round_walks.specs.declared.fates.Fate.TheVariants.{Appended, Withdrawn, Ahead, Empty, NoRoom, NoMemory}

-- whether a wish asked for it
abbrev pub is_wish : Errand → Bool
is_wish (Round turn) = false
is_wish (Wish archive) = true

-- By what is decided what becomes of a harvest: the settings, what is withdrawn, whether a wish asked for it, and how
-- many mementos unlisted originals have then, if they were counted.
pub record Grounds : Type 0 where
  pub settings : Settings
  pub withdrawn : Option Withdrawal
  pub is_wished : Bool
  pub counted : Option ℕ

-- the same, where this was kept of former forgettings before that is decided, and this is then
abbrev pub grounds_of : Settings → Forgetting → Bool → Forgetting → Grounds
grounds_of settings old is_wished new = record {
  settings = settings;
  withdrawn = old.withdrawn;
  is_wished = is_wished;
  counted = new.mementos;
}

-- it has a memento
abbrev pub HasMementos : Harvested → Type 0
HasMementos h = ¬ (set.items h.mementos ≡ [])

-- it has no memento, and nothing of its original is shown
pub record IsVain (h : Harvested) (m : MergerView) : Type 0 where
  pub empty : ¬ HasMementos h
  pub unshown : set.items (shown_of (known m) h.original) ≡ []

-- something is forgotten, and the mementos of unlisted originals would be more than may be
pub record HasNoRoom (grounds : Grounds) (h : Harvested) : Type 0 where
  pub forgets : is_some grounds.settings.forgetting.every ≡ true
  pub full : ¬ (HasRoom grounds.settings.forgetting.most grounds.counted (length (set.items h.mementos)))

-- What becomes of a harvest: it is appended; or nothing changes, since it is withdrawn, since it is ahead of the last
-- second whose harvests are taken, since a wish brought it in vain or without room for it, or since memory is refused.
abbrev pub Becomes : Fate → Grounds → Harvested → MergerView → MergerView → Type 0
Becomes Appended grounds h old new = new ≡ with_merge old (Harvest h)
Becomes Withdrawn grounds h old new = (is_withdrawn_by grounds.withdrawn (h.archive, h.original) ≡ true) × (new ≡ old)
Becomes Ahead grounds h old new =
    ((now : ℕ) × (is_ahead (last_taken grounds.settings.timing.ahead now) h.revision ≡ true)) × (new ≡ old)
Becomes Empty grounds h old new = (grounds.is_wished ≡ true) × IsVain h old × (new ≡ old)
Becomes NoRoom grounds h old new = (grounds.is_wished ≡ true) × HasNoRoom grounds h × (new ≡ old)
Becomes NoMemory grounds h old new = new ≡ old

-- what came of a walk is taken in: a harvest as it becomes, and without one nothing changes
abbrev pub IsTakenIn : Result Harvested WalkFault → Grounds → MergerView → MergerView → Type 0
IsTakenIn (Ok h) grounds old new = (fate : Fate) × Becomes fate grounds h old new
IsTakenIn (Err fault) grounds old new = new ≡ old
