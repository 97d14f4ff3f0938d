use Rattle.std.proofs.Common.{◌≡◌}
use Rattle.memento_time.proofs.builder.share_first.Given as goal

abbrev pub invariant-loop-k : goal.invariant-loop-k
invariant-loop-k l = l.list.items ≡ l.fn.list.items
