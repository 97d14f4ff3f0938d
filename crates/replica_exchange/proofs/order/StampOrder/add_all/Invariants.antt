use Rattle.std.proofs.Common.{◌≡◌, ◌++◌, map, take}
use Rattle.replica_exchange.specs.StampOrder.{given_at, order_of}
use Rattle.replica_exchange.proofs.order.StampOrder.add_all.Given as goal

abbrev pub invariant-loop-key : goal.invariant-loop-key
invariant-loop-key l = order_of l.self ≡ order_of l.initial.self ++ map (given_at l.stamp) (take l.key-index l.keys)
