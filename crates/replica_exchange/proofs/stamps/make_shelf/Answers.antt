use Rattle.std.proofs.Common.{sym, ◌∙◌}
use Rattle.replica_exchange.proofs.ShelfLemmas.{new_shelf_same, new_shelf_stay}
use Rattle.replica_exchange.proofs.stamps.make_shelf.Goals as goal

pub returns-in_ok-insert-clause-same : goal.returns-in_ok-insert-clause-same
returns-in_ok-insert-clause-same c = new_shelf_same c.args.shelves.now c.insert.new.self c.args.archive c.new.result c.new.ensures
    (sym c.contains_key.ensures ∙ c.if-not-contains_key.true) c.in_ok-insert.ensures.updates.0

pub returns-in_ok-insert-clause-stay : goal.returns-in_ok-insert-clause-stay
returns-in_ok-insert-clause-stay c = new_shelf_stay c.args.shelves.now c.insert.new.self c.args.archive c.new.result (sym c.contains_key.ensures ∙ c.if-not-contains_key.true)
    c.in_ok-insert.ensures.updates.0
