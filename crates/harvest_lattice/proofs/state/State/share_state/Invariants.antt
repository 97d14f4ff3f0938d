use Rattle.std.proofs.Common.{◌≡◌, ◌++◌, map}
use Rattle.std.specs.FinMap as fmap
use Rattle.harvest_lattice.specs.Rows.{row_entry}
use Rattle.harvest_lattice.proofs.state.State.share_state.Given as goal

abbrev pub invariant-loop-row : goal.invariant-loop-row
invariant-loop-row l = map row_entry l.rows.items ++ l.row-iterator ≡ fmap.entries l.other
