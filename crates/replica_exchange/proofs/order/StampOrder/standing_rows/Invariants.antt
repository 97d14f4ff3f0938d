use Rattle.std.proofs.Common.{◌≡◌, map}
use Rattle.std.specs.List.{flat_map}
use Rattle.std.specs.Map.Iter.{deref_pair}
use Rattle.replica_exchange.specs.StampOrder.{stamp_and_key}
use Rattle.replica_exchange.proofs.OrderLemmas.{shelf_order}
use Rattle.replica_exchange.proofs.order.StampOrder.standing_rows.Given as goal

abbrev pub invariant-loop-archive : goal.invariant-loop-archive
invariant-loop-archive l = record {
  listed : map stamp_and_key l.rows.items ≡ flat_map shelf_order (map deref_pair l.yielded);
  same : l.self.rows ≡ l.initial.self.rows;
}
