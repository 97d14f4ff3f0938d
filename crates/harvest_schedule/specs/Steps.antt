-- One call of a schedule.
use Rattle.std.specs.List.{filter_map}
use Rattle.std.specs.Prelude.{◌≡◌, ◌⊎◌, ℕ, ◌<◌, ◌≤◌, Bool, true, false, List, [], Some, Contains, IfSome, IsSomeAnd, slice_get, slice_set}
use Rattle.harvest_schedule.specs.declared.moods.Limits.{Limits}
use Rattle.harvest_schedule.specs.declared.moods.Verdict.{Verdict}
use Rattle.harvest_schedule.specs.declared.turns.Turn.{Turn}
use Rattle.harvest_schedule.specs.Standing.{Standing}
use Rattle.harvest_schedule.specs.Lanes.{IsReady, MayWish, after_advance, after_begin, after_end, after_handing, job_of, time_after, walk_begun, walk_ended}

-- what happens to an archive: a job of it is handed out or passed over, the walk of a job ends, a walk beyond its list
-- begins or ends, or a new round begins, in which its list has so many jobs
pub data Act : Type 0 where
  Handed : ℕ → ℕ → Act
  Passed : ℕ → Act
  Ended : ℕ → ℕ → Verdict → Act
  WalkBegun : ℕ → Act
  WalkEnded : ℕ → Verdict → Act
  Begun : ℕ → Act

-- it can happen
abbrev pub Can : Act → Standing → Type 0
Can (Handed now original) s = IsReady now s × (job_of s ≡ Some original)
Can (Passed original) s = job_of s ≡ Some original
Can (Ended now original verdict) s = Contains s.out original
Can (WalkBegun now) s = MayWish now s
Can (WalkEnded now verdict) s = 0 < s.wished
Can (Begun originals) s = s.out ≡ []

-- what it changes
abbrev pub after_act : Limits → Act → Standing → Standing
after_act limits (Handed now original) s = after_handing now original s
after_act limits (Passed original) s = after_advance s
after_act limits (Ended now original verdict) s = after_end limits now original verdict s
after_act limits (WalkBegun now) s = walk_begun now s
after_act limits (WalkEnded now verdict) s = walk_ended limits now verdict s
after_act limits (Begun originals) s = after_begin originals s

-- it can happen to the archive and does, and nothing happens to the others
pub record Does (limits : Limits) (archive : ℕ) (act : Act) (old new : List Standing) : Type 0 where
  pub standing : Standing
  pub at : slice_get old archive ≡ Some standing
  pub can : Can act standing
  pub standings : new ≡ slice_set old archive (after_act limits act standing)

-- it can't happen to the archive
abbrev pub Cannot : ℕ → Act → List Standing → Type 0
Cannot archive act standings = (s : Standing) → slice_get standings archive ≡ Some s → ¬ (Can act s)

-- A call answers whether it can happen. If so, it does; otherwise nothing changes.
pub record Answers (limits : Limits) (archive : ℕ) (act : Act) (result : Bool) (old new : List Standing) : Type 0 where
  pub yes : result ≡ true → Does limits archive act old new
  pub no : result ≡ false → Cannot archive act old
  pub same : result ≡ false → new ≡ old

-- no archive has a job that may be handed out
abbrev pub NoneIsReady : ℕ → List Standing → Type 0
NoneIsReady now standings = (archive : ℕ) (s : Standing) → slice_get standings archive ≡ Some s → ¬ (IsReady now s)

-- some archive has a job that may be handed out
pub record SomeIsReady (now : ℕ) (standings : List Standing) : Type 0 where
  pub archive : ℕ
  pub standing : Standing
  pub at : slice_get standings archive ≡ Some standing
  pub ready : IsReady now standing

-- A job goes before a walk beyond the list at the last hand that is free: such a walk has begun since the last job was
-- handed out or passed over, and a job may be handed out.
abbrev pub JobGoesFirst : ℕ → Bool → Bool → List Standing → Type 0
JobGoesFirst now is_last jobs_next standings = (is_last ≡ true) × (jobs_next ≡ true) × SomeIsReady now standings

-- the job is the next of the archive, and may be handed out
abbrev pub Offers : ℕ → Turn → List Standing → Type 0
Offers now turn standings =
    IsSomeAnd (slice_get standings turn.archive) (λ s. IsReady now s × (job_of s ≡ Some turn.original))

-- there is such an archive, and this holds of it
abbrev pub SomeIs : (Standing → Type 0) → ℕ → List Standing → Type 0
SomeIs P archive standings = IsSomeAnd (slice_get standings archive) P

-- this place stands before the last one in the circle that begins at the first
abbrev pub IsBefore : ℕ → ℕ → ℕ → Type 0
IsBefore start place last = (start ≤ last → (start ≤ place) × (place < last)) × (last < start → (start ≤ place) ⊎ (place < last))

-- of the archives in the circle that begins at the one whose turn it is, this one is the first that is ready
abbrev pub TakesTurn : ℕ → ℕ → ℕ → List Standing → Type 0
TakesTurn now start archive standings = (place : ℕ) → IsBefore start place archive
    → IfSome (slice_get standings place) (λ s. ¬ (IsReady now s))

-- the times after this one from which on archives have a job to hand out if nothing else happens
abbrev pub times_after : ℕ → List Standing → List ℕ
times_after now standings = filter_map (time_after now) standings
