use Rattle.std.proofs.Common.{◌≡◌, ◌++◌, length, true}
use Rattle.timemap_formats.specs.Readback.{memento_rows}
use Rattle.single_questions.proofs.listings.rows_of.Given as goal

-- the rows that stand, and those of the mementos that are left, are all rows
abbrev pub invariant-loop-left : goal.invariant-loop-left
invariant-loop-left l = l.rows.items ++ memento_rows l.first l.left ≡ memento_rows true l.mementos

abbrev pub decreases-loop-left : goal.decreases-loop-left
decreases-loop-left l = length l.left
