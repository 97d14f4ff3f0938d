use Rattle.std.proofs.Common.{◌≡◌}
use Rattle.gate_probe.proofs.climbs.climbs.Given as goal

abbrev pub invariant-loop : goal.invariant-loop
invariant-loop l = l.gate.opening ≡ l.initial.gate.opening
