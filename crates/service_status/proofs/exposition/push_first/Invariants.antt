use Rattle.std.proofs.Common.{◌≡◌, ◌++◌, length}
use Rattle.service_status.specs.Exposition.{first_labels}
use Rattle.service_status.specs.Labels.{as_labels}
use Rattle.service_status.proofs.exposition.push_first.Given as goal

-- what is written, and the labels that are left, are the whole
abbrev pub invariant-loop-left : goal.invariant-loop-left
invariant-loop-left l = l.out.items ++ first_labels (as_labels l.left) ≡ l.fn.out.items ++ first_labels (as_labels l.labels)

abbrev pub decreases-loop-left : goal.decreases-loop-left
decreases-loop-left l = length l.left
