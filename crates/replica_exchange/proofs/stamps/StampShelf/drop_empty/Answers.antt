use Rattle.std.specs.FinMap as map
use Rattle.replica_exchange.proofs.ShelfLemmas.{slot_removed, emptied_same, emptied_others, emptied_gone}
use Rattle.replica_exchange.proofs.stamps.StampShelf.drop_empty.Goals as goal

pub returns-then-has_empty-clause-same : goal.returns-then-has_empty-clause-same
returns-then-has_empty-clause-same c =
    emptied_same c.args.self.now (map.from_entries c.remove.new.self.entries) c.args.original.now
    (slot_removed c.self.inside.slots.entries c.remove.new.self.entries c.args.original.now c.args.self.now c.self.view_is c.remove.ensures.updates.0)
    (c.has_empty.ensures.0 c.if-has_empty.true)

pub returns-then-has_empty-clause-others : goal.returns-then-has_empty-clause-others
returns-then-has_empty-clause-others c =
    emptied_others c.args.self.now (map.from_entries c.remove.new.self.entries) c.args.original.now
    (slot_removed c.self.inside.slots.entries c.remove.new.self.entries c.args.original.now c.args.self.now c.self.view_is c.remove.ensures.updates.0)

pub returns-then-has_empty-clause-gone : goal.returns-then-has_empty-clause-gone
returns-then-has_empty-clause-gone c =
    emptied_gone c.args.self.now (map.from_entries c.remove.new.self.entries) c.args.original.now
    (slot_removed c.self.inside.slots.entries c.remove.new.self.entries c.args.original.now c.args.self.now c.self.view_is c.remove.ensures.updates.0)
