use Rattle.replica_exchange.specs.StampOrder.{order_of}
use Rattle.replica_exchange.proofs.OrderLemmas.{order_anew}
use Rattle.replica_exchange.proofs.order.StampOrder.make_place.Goals as goal

pub returns-in-Ok : goal.returns-in-Ok
returns-in-Ok c number is =
    order_anew c.args.shelves.now (order_of c.args.self.now) c.in-Ok.rows.items number c.in-Ok.ensures.standing c.in-Ok.ensures.rises is
