-- Rows of failures: when an archive is dormant.
use Rattle.std.specs.Prelude.{◌≡◌, ⊤, ℕ, ◌+◌, ◌<◌, ◌^◌, List, [], ◌∷◌, Some, max}
use Rattle.harvest_schedule.specs.declared.moods.Limits.{Limits}
use Rattle.harvest_schedule.specs.declared.moods.Pace.{Pace}
use Rattle.harvest_schedule.specs.declared.moods.Mood.{Mood}
use Rattle.harvest_schedule.specs.declared.moods.Mood.TheVariants.{Awake, Aside, Tried, Dormant, Probed}
use Rattle.harvest_schedule.specs.declared.moods.Verdict.{Verdict}
use Rattle.harvest_schedule.specs.declared.moods.Verdict.TheVariants.{Answered, There, Failed, Unknown, Busy, Later}
use Rattle.harvest_schedule.specs.Moods.{later}
use Rattle.harvest_schedule.specs.Standing.{Standing}
use Rattle.harvest_schedule.specs.Lanes.{new_standing}
use Rattle.harvest_schedule.specs.Steps.{Act, Begun, Can, Ended, Handed, Passed, WalkBegun, WalkEnded, after_act}
use Rattle.harvest_schedule.specs.Runs.{Leads, WaitsUntil, times}

-- ---- what walks tell

-- a walk ends with a first page
abbrev pub IsAnswer : Act → Type 0
IsAnswer (Handed now original) = ⊥
IsAnswer (Passed original) = ⊥
IsAnswer (Ended now original verdict) = verdict ≡ Answered
IsAnswer (WalkBegun now) = ⊥
IsAnswer (WalkEnded now verdict) = verdict ≡ Answered
IsAnswer (Begun originals) = ⊥

-- a walk ends that shows no more than that the archive is there
abbrev pub ShowsThere : Verdict → Type 0
ShowsThere Answered = ⊥
ShowsThere There = ⊤
ShowsThere Failed = ⊥
ShowsThere Unknown = ⊥
ShowsThere (Busy until) = ⊥
ShowsThere (Later until) = ⊤

abbrev pub IsSign : Act → Type 0
IsSign (Handed now original) = ⊥
IsSign (Passed original) = ⊥
IsSign (Ended now original verdict) = ShowsThere verdict
IsSign (WalkBegun now) = ⊥
IsSign (WalkEnded now verdict) = ShowsThere verdict
IsSign (Begun originals) = ⊥

-- how many failures this is
abbrev pub failures_by : Verdict → ℕ
failures_by Answered = 0
failures_by There = 0
failures_by Failed = 1
failures_by Unknown = 0
failures_by (Busy until) = 1
failures_by (Later until) = 0

abbrev pub failures : Act → ℕ
failures (Handed now original) = 0
failures (Passed original) = 0
failures (Ended now original verdict) = failures_by verdict
failures (WalkBegun now) = 0
failures (WalkEnded now verdict) = failures_by verdict
failures (Begun originals) = 0

-- ---- dormant archives

-- the archive is dormant, or one walk finds out whether it is
abbrev pub IsAsleep : Mood → Type 0
IsAsleep (Awake failed) = ⊥
IsAsleep (Aside until failed) = ⊥
IsAsleep (Tried failed) = ⊥
IsAsleep (Dormant until named) = ⊤
IsAsleep Probed = ⊤

-- Whatever happens, an archive is asleep only once as many walks as are borne have failed: since it was first asked, or
-- since an answer came, whatever the archive was when it came. What shows that it is there is no failure.
pub record AllAwake : Type 0 where
  pub first : (limits : Limits) (originals : ℕ) (pace : Pace) (acts : List Act) (t : Standing) (tolerance : ℕ)
      → limits.tolerance ≡ Some tolerance → Leads limits acts (new_standing originals pace) t
      → times failures acts < tolerance → ¬ (IsAsleep t.mood)
  pub answered : (limits : Limits) (answer : Act) (acts : List Act) (s t : Standing) (tolerance : ℕ)
      → limits.tolerance ≡ Some tolerance → IsAnswer answer → Leads limits (answer ∷ acts) s t
      → times failures acts < tolerance → ¬ (IsAsleep t.mood)

-- it ends no row of failures, and puts the archive not aside
abbrev pub GoesOnBy : Verdict → Type 0
GoesOnBy Answered = ⊥
GoesOnBy There = ⊤
GoesOnBy Failed = ⊤
GoesOnBy Unknown = ⊤
GoesOnBy (Busy until) = ⊥
GoesOnBy (Later until) = ⊥

abbrev pub GoesOn : Act → Type 0
GoesOn (Handed now original) = ⊤
GoesOn (Passed original) = ⊤
GoesOn (Ended now original verdict) = GoesOnBy verdict
GoesOn (WalkBegun now) = ⊤
GoesOn (WalkEnded now verdict) = GoesOnBy verdict
GoesOn (Begun originals) = ⊤

abbrev pub GoOn : List Act → Type 0
GoOn [] = ⊤
GoOn (act ∷ acts) = GoesOn act × GoOn acts

-- a walk fails at this time, and names another before which the archive isn't to be asked, or 0
abbrev pub FailsBy : ℕ → Verdict → Type 0
FailsBy named Answered = ⊥
FailsBy named There = ⊥
FailsBy named Failed = named ≡ 0
FailsBy named Unknown = ⊥
FailsBy named (Busy until) = named ≡ until
FailsBy named (Later until) = ⊥

abbrev pub Fails : ℕ → ℕ → Act → Type 0
Fails now named (Handed time original) = ⊥
Fails now named (Passed original) = ⊥
Fails now named (Ended time original verdict) = (now ≡ time) × FailsBy named verdict
Fails now named (WalkBegun time) = ⊥
Fails now named (WalkEnded time verdict) = (now ≡ time) × FailsBy named verdict
Fails now named (Begun originals) = ⊥

-- the archive is dormant until this time
abbrev pub SleepsUntil : ℕ → Mood → Type 0
SleepsUntil time (Awake failed) = ⊥
SleepsUntil time (Aside until failed) = ⊥
SleepsUntil time (Tried failed) = ⊥
SleepsUntil time (Dormant until named) = until ≡ time
SleepsUntil time Probed = ⊥

-- Once as many walks as are borne have failed in a row, since an answer came of an archive that wasn't put aside, the
-- archive is dormant: from the end of the last one on for the time that the limits say, and not before a time that it
-- named. So it is again if a probe fails.
pub record AllAsleep : Type 0 where
  pub row : (limits : Limits) (answer last : Act) (acts : List Act) (s t : Standing) (tolerance now named : ℕ)
      → limits.tolerance ≡ Some tolerance → tolerance < 2 ^ 64 → IsAnswer answer → ¬ (WaitsUntil 0 s.mood) → GoOn acts
      → Leads limits (answer ∷ acts) s t → times failures acts + 1 ≡ tolerance → Fails now named last → Can last t
      → SleepsUntil (max named (later now limits.pause)) (after_act limits last t).mood
  pub probe : (limits : Limits) (last : Act) (t : Standing) (now named : ℕ) → t.mood ≡ Probed → Fails now named last
      → Can last t → SleepsUntil (max named (later now limits.pause)) (after_act limits last t).mood

-- What shows no more than that the archive is there wakes it where a walk finds that out, and makes no archive dormant.
abbrev pub AllThere : Type 0
AllThere = (limits : Limits) (sign : Act) (s : Standing) → IsSign sign → Can sign s
    → IsAsleep (after_act limits sign s).mood → WaitsUntil 0 s.mood × IsAsleep s.mood
