use Rattle.std.proofs.Common.{map, take}
use Rattle.harvest_lattice.specs.Rows.{row_entry}
use Rattle.memento_index.specs.Lists.{AreGathered, FitLists}
use Rattle.memento_index.proofs.gather.gather_steps.Given as goal

abbrev pub invariant-loop-row : goal.invariant-loop-row
invariant-loop-row l = record {
  gathered : AreGathered l.state (map row_entry (take l.row-index l.row-items)) l.all;
  fit : FitLists l.lists l.all;
}
