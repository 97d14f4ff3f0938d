use Rattle.std.proofs.Common.{sym, ◌∙◌}
use Rattle.harvest_lattice.proofs.EntryOrder.{entry_semilattice, join_from_at_most}
use Rattle.harvest_lattice.proofs.entry.Entry.join_mixed.Goals as goal

pub returns-then-le-clause-ok : goal.returns-then-le-clause-ok
returns-then-le-clause-ok c = sym (entry_semilattice.comm c.args.self.now c.args.other
    ∙ join_from_at_most c.args.other c.args.self.now (c.le.ensures.0 c.if-le.true))

pub returns-then-le-2-clause-ok : goal.returns-then-le-2-clause-ok
returns-then-le-2-clause-ok c = sym (join_from_at_most c.args.self.now c.args.other (c.le-2.ensures.0 c.if-le-2.true))
