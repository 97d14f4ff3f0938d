-- How the jobs of a round and walks beyond its list share an archive.
use Rattle.std.specs.Prelude.{⊤, ℕ, ◌<◌, ◌≤◌, List, [], ◌∷◌, IsNone, IsSome}
use Rattle.harvest_schedule.specs.declared.moods.Limits.{Limits}
use Rattle.harvest_schedule.specs.Standing.{Standing}
use Rattle.harvest_schedule.specs.Lanes.{MayWalk, job_of}
use Rattle.harvest_schedule.specs.Steps.{Act, Begun, Can, Ended, Handed, Passed, WalkBegun, WalkEnded}
use Rattle.harvest_schedule.specs.Runs.{Leads, times}

-- a walk beyond the list begins
abbrev pub wishes : Act → ℕ
wishes (Handed now original) = 0
wishes (Passed original) = 0
wishes (Ended now original verdict) = 0
wishes (WalkBegun now) = 1
wishes (WalkEnded now verdict) = 0
wishes (Begun originals) = 0

-- a job is handed out or passed over
abbrev pub IsTurn : Act → Type 0
IsTurn (Handed now original) = ⊤
IsTurn (Passed original) = ⊤
IsTurn (Ended now original verdict) = ⊥
IsTurn (WalkBegun now) = ⊥
IsTurn (WalkEnded now verdict) = ⊥
IsTurn (Begun originals) = ⊥

-- no job is handed out or passed over, and a round that begins has jobs
abbrev pub KeepsWaiting : Act → Type 0
KeepsWaiting (Handed now original) = ⊥
KeepsWaiting (Passed original) = ⊥
KeepsWaiting (Ended now original verdict) = ⊤
KeepsWaiting (WalkBegun now) = ⊤
KeepsWaiting (WalkEnded now verdict) = ⊤
KeepsWaiting (Begun originals) = 0 < originals

abbrev pub KeepWaiting : List Act → Type 0
KeepWaiting [] = ⊤
KeepWaiting (act ∷ acts) = KeepsWaiting act × KeepWaiting acts

-- While an archive has a job, and none of its jobs is handed out or passed over, one walk beyond the list begins at
-- most: no job waits behind more than one.
abbrev pub AllServed : Type 0
AllServed = (limits : Limits) (acts : List Act) (s t : Standing) → IsSome (job_of s) → KeepWaiting acts
    → Leads limits acts s t → times wishes acts ≤ 1

-- A walk beyond the list may begin wherever one walk more may: if the archive has no job, and if a job was handed out
-- or passed over since the last such walk began.
pub record AllGranted : Type 0 where
  pub jobless : (now : ℕ) (s : Standing) → MayWalk now s → IsNone (job_of s) → Can (WalkBegun now) s
  pub next : (limits : Limits) (turn : Act) (acts : List Act) (s t : Standing) (now : ℕ) → IsTurn turn
      → times wishes acts ≤ 0 → Leads limits (turn ∷ acts) s t → MayWalk now t → Can (WalkBegun now) t
