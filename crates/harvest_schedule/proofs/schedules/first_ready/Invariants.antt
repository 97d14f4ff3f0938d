use Rattle.std.proofs.Common.{ℕ, ◌≤◌, ◌<◌, IfSome, slice_get}
use Rattle.harvest_schedule.specs.Lanes.{IsReady}
use Rattle.harvest_schedule.proofs.schedules.first_ready.Given as goal

abbrev pub invariant-loop-place : goal.invariant-loop-place
invariant-loop-place l =
    (j : ℕ) → l.start ≤ j → j < l.place → IfSome (slice_get l.lanes j) (λ s. ¬ (IsReady l.now s))
