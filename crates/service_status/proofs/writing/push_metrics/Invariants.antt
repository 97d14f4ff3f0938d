use Rattle.std.proofs.Common.{◌≡◌, ◌++◌, length}
use Rattle.std.specs.Prelude.{flat_map}
use Rattle.service_status.specs.Samples.{metric_text}
use Rattle.service_status.proofs.writing.push_metrics.Given as goal

-- what is written, and the lines of what is left, are the whole
abbrev pub invariant-loop-left : goal.invariant-loop-left
invariant-loop-left l =
    l.out.items ++ flat_map (metric_text l.status) l.left
    ≡ l.fn.out.items ++ flat_map (metric_text l.status) l.metrics

abbrev pub decreases-loop-left : goal.decreases-loop-left
decreases-loop-left l = length l.left
