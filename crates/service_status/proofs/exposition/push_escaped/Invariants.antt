use Rattle.std.proofs.Common.{◌≡◌, ◌++◌, length}
use Rattle.service_status.specs.Exposition.{escaped_value}
use Rattle.service_status.proofs.exposition.push_escaped.Given as goal

-- what is written, and the bytes that are left, are the whole
abbrev pub invariant-loop-left : goal.invariant-loop-left
invariant-loop-left l = l.out.items ++ escaped_value l.left ≡ l.fn.out.items ++ escaped_value l.text

abbrev pub decreases-loop-left : goal.decreases-loop-left
decreases-loop-left l = length l.left
