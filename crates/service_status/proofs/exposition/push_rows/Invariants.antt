use Rattle.std.proofs.Common.{◌≡◌, ◌++◌, length}
use Rattle.std.specs.Prelude.{map}
use Rattle.service_status.specs.Labels.{as_labels}
use Rattle.service_status.specs.Samples.{by_end, lines_of}
use Rattle.service_status.proofs.exposition.push_rows.Given as goal

-- what is written, and the lines of the rows that are left, are the whole
abbrev pub invariant-loop-left : goal.invariant-loop-left
invariant-loop-left l =
    l.out.items ++ lines_of l.metric (by_end (as_labels l.labels) l.name (map (λ row. (row.0.now, row.1)) l.left))
    ≡ l.fn.out.items ++ lines_of l.metric (by_end (as_labels l.labels) l.name (map (λ row. (row.0.now, row.1)) l.rows))

abbrev pub decreases-loop-left : goal.decreases-loop-left
decreases-loop-left l = length l.left
