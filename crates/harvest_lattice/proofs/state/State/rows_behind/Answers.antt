use Rattle.std.proofs.Common.{sym, ap, ◌∙◌}
use Rattle.std.specs.FinMap as fmap
use Rattle.harvest_lattice.specs.Lattice.{Entries}
use Rattle.harvest_lattice.specs.Rows.{rows_behind}
use Rattle.harvest_lattice.proofs.ShelfLemmas.{entries-entries_of}
use Rattle.harvest_lattice.proofs.state.State.rows_behind.Goals as goal

pub returns : goal.returns
returns c =
    c.behind.ensures
    ∙ ap (rows_behind (c.args.archive, c.args.original.now)) (sym (entries-entries_of c.self.inside.shelves c.self.invariant.0)
    ∙ ap (λ (x : Entries). fmap.entries x) c.self.view_is)
