use Rattle.std.proofs.Common.{◌≡◌}
use Rattle.harvest_lattice.proofs.ordered.share_alike.Given as goal

abbrev pub invariant-loop-k : goal.invariant-loop-k
invariant-loop-k l = record { same : l.parts.items ≡ l.initial.parts.items }
