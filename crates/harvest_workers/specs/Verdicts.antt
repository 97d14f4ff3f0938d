-- What a walk tells of its archive.
use Rattle.std.specs.Prelude.{◌≡◌, ◌≢◌, ⊤, ℕ, ◌+◌, ◌*◌, ◌-◌, ◌^◌, ◌<◌, ◌≤◌, ◌==◌, ◌||◌, Bool, nat_le, min, max, Option, Some, None, Result, Ok, Err, if◌then◌else◌}
use Rattle.harvest_lattice.specs.Knowledge.{Harvested}
use Rattle.harvest_schedule.specs.declared.moods.Verdict.{Verdict}
use Rattle.harvest_schedule.specs.declared.moods.Verdict.TheVariants.{Answered, There, Failed, Unknown, Busy, Later}
use Rattle.harvest_schedule.specs.declared.turns.Turn.{Turn}
use Rattle.harvester.specs.declared.faults.FetchFault.{FetchFault}
use Rattle.harvester.specs.declared.faults.WalkFault.{WalkFault}
use Rattle.harvester.specs.declared.faults.WalkFault.TheVariants.{Fetch, Status, Encoded, Page, TooManyPages}
use Rattle.harvester.specs.declared.faults.WalkFault.TheVariants.{TooManyMementos, NoMemory}
use Rattle.harvest_workers.specs.declared.errands.Errand.{Errand}
use Rattle.harvest_workers.specs.declared.errands.Errand.TheVariants.{Round, Wish}

-- The archive can't answer, whatever it is asked for: it failed (5xx), the request came too slowly (408), or too many
-- came (429).
abbrev pub is_failure : ℕ → Bool
is_failure status = nat_le 500 status || status == 408 || status == 429

-- Where no head of an answer came the archive has failed, and so it has where the rest of an answer to a job didn't
-- come. A head shows a wish that it is there, and an answer that is too long shows it whatever it was asked for.
abbrev pub fetch_verdict : Errand → FetchFault → Verdict
fetch_verdict errand FetchFault.Failed = Failed
fetch_verdict (Round turn) FetchFault.Broken = Failed
fetch_verdict (Wish archive) FetchFault.Broken = There
fetch_verdict errand FetchFault.TooLong = There
fetch_verdict errand FetchFault.NoMemory = Unknown

-- What an answer of another status than 200 and 404 tells. That a wish's original is answered so tells nothing of
-- others, since whoever reads may have picked it.
abbrev pub status_verdict : Errand → ℕ → Verdict
status_verdict (Round turn) status = if is_failure status then Failed else There
status_verdict (Wish archive) status = There

-- the archive gave the first page, or is there, or has failed, or nothing is known of it
abbrev pub came : Errand → Result Harvested WalkFault → Verdict
came errand (Ok harvest) = Answered
came errand (Err (Fetch fault)) = fetch_verdict errand fault
came errand (Err (Status status)) = status_verdict errand status
came errand (Err Encoded) = There
came errand (Err (Page fault)) = There
came errand (Err TooManyPages) = Answered
came errand (Err TooManyMementos) = Answered
came errand (Err NoMemory) = Unknown

-- the millisecond that is so many seconds after another, and one second at least, as far as 64 bits count
abbrev pub seconds_after : ℕ → ℕ → ℕ
seconds_after now seconds = min (now + min (max seconds 1 * 1000) (2 ^ 64 - 1)) (2 ^ 64 - 1)

-- the archive asked not to be asked before this millisecond
abbrev pub busy : Errand → ℕ → Verdict
busy (Round turn) until = Busy until
busy (Wish archive) until = Later until

-- what a walk tells that ended at this millisecond: an archive that asked to be left alone is busy, whatever came
abbrev pub verdict : Errand → ℕ → Option ℕ → Result Harvested WalkFault → Verdict
verdict errand now (Some seconds) walked = busy errand (seconds_after now seconds)
verdict errand now None walked = came errand walked

-- ---- what verdicts are to be

-- it counts in a row of failures
abbrev pub Counts : Verdict → Type 0
Counts Answered = ⊥
Counts There = ⊥
Counts Failed = ⊤
Counts Unknown = ⊥
Counts (Busy until) = ⊤
Counts (Later until) = ⊥

-- the archive isn't to be asked before this millisecond
abbrev pub WaitsUntil : ℕ → Verdict → Type 0
WaitsUntil time Answered = ⊥
WaitsUntil time There = ⊥
WaitsUntil time Failed = ⊥
WaitsUntil time Unknown = ⊥
WaitsUntil time (Busy until) = time ≤ until
WaitsUntil time (Later until) = time ≤ until

-- What readers wish for can't make an archive count as failing that answers, whatever it answers; nor does any errand
-- where the status is below 500, but for those that say that it is asked too much or too slowly. An archive that asks
-- to be left alone is, for whatever errand.
pub record AreFair : Type 0 where
  pub wish : (archive now : ℕ) (asked : Option ℕ) (walked : Result Harvested WalkFault)
      → Counts (verdict (Wish archive) now asked walked) → walked ≡ Err (Fetch FetchFault.Failed)
  pub there : (errand : Errand) (now status : ℕ) → status < 500 → status ≢ 408 → status ≢ 429
      → verdict errand now None (Err (Status status)) ≡ There
  pub heeded : (errand : Errand) (now seconds : ℕ) (walked : Result Harvested WalkFault) → now + seconds * 1000 < 2 ^ 64
      → WaitsUntil (now + seconds * 1000) (verdict errand now (Some seconds) walked)

-- a job of a round
abbrev pub job : Errand
job = Round (record { archive = 2; original = 7 })

-- Worked examples, of walks that ended five seconds after the clock of the schedule began.
pub record AreVerdicts : Type 0 where
  pub excluded : verdict job 5000 None (Err (Status 403)) ≡ There
  pub moved : verdict job 5000 None (Err (Status 301)) ≡ There
  pub slow : verdict job 5000 None (Err (Status 408)) ≡ Failed
  pub too_many : verdict job 5000 None (Err (Status 429)) ≡ Failed
  pub forbidden_by_law : verdict job 5000 None (Err (Status 451)) ≡ There
  pub last_of_its_kind : verdict job 5000 None (Err (Status 499)) ≡ There
  pub broken : verdict job 5000 None (Err (Status 500)) ≡ Failed
  pub overloaded : verdict job 5000 None (Err (Status 503)) ≡ Failed
  pub silent : verdict job 5000 None (Err (Fetch FetchFault.Failed)) ≡ Failed
  pub broken_off : verdict job 5000 None (Err (Fetch FetchFault.Broken)) ≡ Failed
  pub endless : verdict job 5000 None (Err (Fetch FetchFault.TooLong)) ≡ There
  pub encoded : verdict job 5000 None (Err Encoded) ≡ There
  pub many_pages : verdict job 5000 None (Err TooManyPages) ≡ Answered
  pub busy_for_two_seconds : verdict job 5000 (Some 2) (Err (Status 429)) ≡ Busy 7000
  pub busy_for_none : verdict job 5000 (Some 0) (Err (Status 503)) ≡ Busy 6000
  pub wish_overloaded : verdict (Wish 2) 5000 None (Err (Status 503)) ≡ There
  pub wish_too_many : verdict (Wish 2) 5000 None (Err (Status 429)) ≡ There
  pub wish_silent : verdict (Wish 2) 5000 None (Err (Fetch FetchFault.Failed)) ≡ Failed
  pub wish_broken_off : verdict (Wish 2) 5000 None (Err (Fetch FetchFault.Broken)) ≡ There
  pub wish_busy : verdict (Wish 2) 5000 (Some 2) (Err (Status 429)) ≡ Later 7000
  pub wish_without_memory : verdict (Wish 2) 5000 None (Err NoMemory) ≡ Unknown
