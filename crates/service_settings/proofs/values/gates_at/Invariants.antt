use Rattle.std.proofs.Common.{◌≡◌, length}
use Rattle.service_settings.proofs.values.gates_at.Given as goal

abbrev pub invariant-loop-value : goal.invariant-loop-value
invariant-loop-value l = length l.gates.items ≡ l.value-index
