-- By whose leave a job is walked, and which jobs are passed over.
use Rattle.std.specs.Prelude.{◌≡◌, ◌⊎◌, ℕ, true, List, Option, Some, slice_get}
use Rattle.harvest_schedule.specs.declared.schedules.Schedule.{Schedule}
use Rattle.harvest_schedule.specs.declared.turns.Turn.{Turn}
use Rattle.harvest_schedule.specs.Steps.{Answers, Handed, WalkBegun}
use Rattle.published_index.specs.Batches.{merges_of}
use Rattle.published_index.specs.Views.{MergerView}
use Rattle.replica_exchange.specs.Stamps.{state_after}
use Rattle.retention.specs.Rules.{Withdrawal}
use Rattle.forgetting.specs.Renewing.{is_withdrawn_by}
use Rattle.service_settings.specs.declared.archives.Archive.{Archive}
use Rattle.service_settings.specs.declared.settings.Settings.{Settings}
use Rattle.round_course.specs.Asking.{is_young_in}

-- The schedule gave leave at a millisecond to walk the job of a turn: the job was the next of its archive, the archive
-- might be asked, and the job is out now.
abbrev pub GaveTurn : Turn → ℕ → Schedule → Schedule → Type 0
GaveTurn turn now old new =
    Answers old.limits turn.archive (Handed now turn.original) true old.lanes.items new.lanes.items

-- it gave leave at a millisecond to ask an archive beyond the round's list
abbrev pub GaveWalk : ℕ → ℕ → Schedule → Schedule → Type 0
GaveWalk archive now old new = Answers old.limits archive (WalkBegun now) true old.lanes.items new.lanes.items

-- the job of a turn: its archive, and its original among those that rounds look after
pub record IsJobAt (settings : Settings) (list : List (List ℕ)) (turn : Turn) : Type 0 where
  pub archive : Archive
  pub original : List ℕ
  pub archive_at : slice_get settings.archives.items turn.archive ≡ Some archive
  pub original_at : slice_get list turn.original ≡ Some original

-- the job of a turn was found not to be needed in a second: what is published of it is young enough
pub record IsKnownAt (settings : Settings) (m : MergerView) (list : List (List ℕ)) (turn : Turn) : Type 0 where
  pub job : IsJobAt settings list turn
  pub second : ℕ
  pub young : is_young_in settings.timing (state_after (merges_of m.published)) (job.archive.name, job.original) second ≡ true

-- what the job of a turn would bring is withdrawn
pub record IsWithdrawnAt (settings : Settings) (withdrawn : Option Withdrawal) (list : List (List ℕ)) (turn : Turn) : Type 0 where
  pub job : IsJobAt settings list turn
  pub gone : is_withdrawn_by withdrawn (job.archive.name, job.original) ≡ true

-- the job of a turn needn't be walked
abbrev pub IsNeedless : Settings → Option Withdrawal → MergerView → List (List ℕ) → Turn → Type 0
IsNeedless settings withdrawn m list turn = IsKnownAt settings m list turn ⊎ IsWithdrawnAt settings withdrawn list turn
