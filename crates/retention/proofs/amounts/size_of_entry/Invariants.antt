use Rattle.std.proofs.Common.{◌≡◌, ◌+◌, drop}
use Rattle.std.specs.FinMap as fmap
use Rattle.retention.specs.Amounts.{sum_sizes, size}
use Rattle.retention.proofs.amounts.size_of_entry.Given as goal

abbrev pub invariant-loop-k : goal.invariant-loop-k
invariant-loop-k l = l.count + sum_sizes (drop l.k (fmap.entries l.entry.revisions)) ≡ size l.entry
