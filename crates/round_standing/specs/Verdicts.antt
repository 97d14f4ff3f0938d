-- What a schedule is told of a walk.
use Rattle.std.specs.Prelude.{◌≡◌, ℕ, Bool, true, false}
use Rattle.harvest_schedule.specs.declared.schedules.Schedule.{Schedule}
use Rattle.harvest_schedule.specs.declared.moods.Verdict.{Verdict}
use Rattle.harvest_schedule.specs.declared.moods.Verdict.TheVariants.{Answered, There, Failed, Unknown, Busy, Later}
use Rattle.harvest_schedule.specs.Steps.{Answers, Ended, WalkEnded}
use Rattle.harvest_workers.specs.declared.errands.Errand.{Errand}
use Rattle.harvest_workers.specs.declared.errands.Errand.TheVariants.{Round, Wish}
use Rattle.round_values.specs.Absences.{noted}
use Rattle.round_values.specs.Desks.{IsNoted}
use Rattle.round_values.specs.declared.absences.Absences.{Absences}

-- The walk of an errand ended at a millisecond, and told this of its archive. If it was out, the archive's lane is as
-- after that; no other lane changes.
abbrev pub IsTold : Errand → Verdict → ℕ → Schedule → Schedule → Type 0
IsTold (Round turn) verdict now old new = (was_out : Bool)
    × Answers old.limits turn.archive (Ended now turn.original verdict) was_out old.lanes.items new.lanes.items
IsTold (Wish archive) verdict now old new = (was_out : Bool)
    × Answers old.limits archive (WalkEnded now verdict) was_out old.lanes.items new.lanes.items

-- the archive at this place was noted as present, and no other changes
pub record NotesPresent (archive : ℕ) (old new : Absences) : Type 0 where
  pub archives : IsNoted archive noted old.archives.items new.archives.items
  pub rest : new ≡ record old { archives = new.archives }

-- what a walk tells of an archive that is there, though it may refuse what it is asked for
abbrev pub is_there : Verdict → Bool
is_there Answered = true
is_there There = true
is_there Failed = false
is_there Unknown = false
is_there (Busy until) = false
is_there (Later until) = false

-- a walk that ended so notes its archive as present: one of a round, in which the archive was there
abbrev pub shows_presence : Errand → Verdict → Bool
shows_presence (Round turn) verdict = is_there verdict
shows_presence (Wish archive) verdict = false
