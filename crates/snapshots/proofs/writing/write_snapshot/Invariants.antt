use Rattle.std.proofs.Common.{map}
use Rattle.harvest_lattice.specs.Rows.{lent_entry}
use Rattle.snapshots.specs.Standing.{Stands}
use Rattle.snapshots.proofs.writing.write_snapshot.Given as goal

abbrev pub invariant-loop-archive : goal.invariant-loop-archive
invariant-loop-archive g l = Stands (g.W.Write.contents l.fn.writer) (g.W.Write.contents l.writer) l.sections.body.items l.sections.entries l.sections.written (map lent_entry l.yielded)
