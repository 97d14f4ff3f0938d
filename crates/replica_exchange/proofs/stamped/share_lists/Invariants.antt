use Rattle.std.proofs.Common.{◌≡◌}
use Rattle.replica_exchange.proofs.stamped.share_lists.Given as goal

abbrev pub invariant-loop-key : goal.invariant-loop-key
invariant-loop-key l = l.index ≡ l.initial.index
