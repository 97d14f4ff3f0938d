use Rattle.std.proofs.Common.{◌≡◌, length}
use Rattle.service_settings.proofs.values.originals_at.Given as goal

abbrev pub invariant-loop-value : goal.invariant-loop-value
invariant-loop-value l = length l.originals.items ≡ l.value-index
