use Rattle.std.proofs.Common.{◌≡◌, ◌++◌, length}
use Rattle.std.specs.Prelude.{flat_map}
use Rattle.timemap_formats.specs.Cdxj.{row_line}
use Rattle.timemap_formats.proofs.cdxj.push_rows.Given as goal

-- what is written, and the lines of the rows that are left, are the whole
abbrev pub invariant-loop-left : goal.invariant-loop-left
invariant-loop-left l =
    l.out.items ++ flat_map (row_line l.base) l.left ≡ l.fn.out.items ++ flat_map (row_line l.base) l.rows

abbrev pub decreases-loop-left : goal.decreases-loop-left
decreases-loop-left l = length l.left
