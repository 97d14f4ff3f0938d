use Rattle.std.proofs.Common.{◌≤◌}
use Rattle.gate_server.proofs.serving.serve_gate.Given as goal

abbrev pub invariant-loop : goal.invariant-loop
invariant-loop g l = l.faults ≤ l.counter
