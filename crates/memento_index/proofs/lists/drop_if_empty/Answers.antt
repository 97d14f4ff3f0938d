use Rattle.memento_index.proofs.ListLemmas.{empty_dropped}
use Rattle.memento_index.proofs.lists.drop_if_empty.Goals as goal

pub returns-then-is_empty_at-clause-tallies : goal.returns-then-is_empty_at-clause-tallies
returns-then-is_empty_at-clause-tallies c o =
    (empty_dropped c.args.lists.now c.remove.new.self c.args.original.now c.remove.ensures.updates.0
    (c.is_empty_at.ensures.0 c.if-is_empty_at.true) o).0

pub returns-then-is_empty_at-clause-listed : goal.returns-then-is_empty_at-clause-listed
returns-then-is_empty_at-clause-listed c o =
    (empty_dropped c.args.lists.now c.remove.new.self c.args.original.now c.remove.ensures.updates.0
    (c.is_empty_at.ensures.0 c.if-is_empty_at.true) o).1
