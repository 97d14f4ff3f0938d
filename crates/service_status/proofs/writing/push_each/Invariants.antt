use Rattle.std.proofs.Common.{◌≡◌, ◌++◌, length}
use Rattle.std.specs.Prelude.{flat_map}
use Rattle.service_status.specs.Samples.{lines_of}
use Rattle.service_status.proofs.writing.push_each.Given as goal

-- what is written, and the lines of what is left, are the whole
abbrev pub invariant-loop-left : goal.invariant-loop-left
invariant-loop-left g l =
    l.out.items ++ lines_of l.metric (flat_map (g.T.Sampled.samples l.metric) l.left)
    ≡ l.fn.out.items ++ lines_of l.metric (flat_map (g.T.Sampled.samples l.metric) l.each)

abbrev pub decreases-loop-left : goal.decreases-loop-left
decreases-loop-left g l = length l.left
