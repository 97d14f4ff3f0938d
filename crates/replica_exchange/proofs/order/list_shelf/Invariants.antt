use Rattle.std.proofs.Common.{◌≡◌, ◌++◌, map}
use Rattle.std.specs.Arc.{arc_value}
use Rattle.std.specs.List.{flat_map}
use Rattle.std.specs.Map.Iter.{deref_pair}
use Rattle.replica_exchange.specs.StampOrder.{stamp_and_key, row_with}
use Rattle.replica_exchange.proofs.order.list_shelf.Given as goal

abbrev pub invariant-loop-original : goal.invariant-loop-original
invariant-loop-original l =
    map stamp_and_key l.rows.items ≡ map stamp_and_key l.fn.rows.items ++ flat_map (λ slot. row_with (arc_value l.name, slot.0) slot.1) (map deref_pair l.yielded)
