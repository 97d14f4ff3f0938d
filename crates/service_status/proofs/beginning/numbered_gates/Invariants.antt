use Rattle.std.proofs.Common.{◌≤◌}
use Rattle.std.specs.Prelude.{All}
use Rattle.service_status.specs.declared.status.GateStatus.{GateStatus}
use Rattle.service_status.specs.Series.{AreApart}
use Rattle.service_status.proofs.beginning.numbered_gates.Given as goal

-- so far the numbers are apart, and none is greater than how many there are
abbrev pub invariant-loop-place : goal.invariant-loop-place
invariant-loop-place l = record {
  apart : AreApart (λ (gate : GateStatus). gate.number) l.gates.items;
  below : All (λ (gate : GateStatus). gate.number ≤ l.place) l.gates.items;
}
