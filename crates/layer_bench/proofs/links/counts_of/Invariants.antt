use Rattle.std.proofs.Common.{◌≤◌, ◌-◌}
use Rattle.layer_bench.proofs.links.counts_of.Given as goal

abbrev pub invariant-loop-link : goal.invariant-loop-link
invariant-loop-link l = l.links.count ≤ 200000

abbrev pub decreases-loop-link : goal.decreases-loop-link
decreases-loop-link l = 200000 - l.links.count
