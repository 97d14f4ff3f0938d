use Rattle.std.proofs.Common.{ℕ, List, map, ap, ◌∙◌, rules}
use Rattle.std.specs.Arc.{arc_value}
use Rattle.std.specs.List.{flat_map}
use Rattle.std.specs.Map.Iter.{deref_pair}
use Rattle.std.proofs.lemmas.List.{map_push}
use Rattle.std.proofs.lemmas.List.Sorted.{IsNonDecreasingBy-from_sort_by_key}
use Rattle.std.proofs.lemmas.Map.Iter.{iter_end}
use Rattle.replica_exchange.specs.declared.order.OrderRow.{OrderRow}
use Rattle.replica_exchange.specs.StampShelves.{Slots}
use Rattle.replica_exchange.specs.StampOrder.{stamp_and_key}
use Rattle.replica_exchange.proofs.OrderLemmas.{shelf_order, sorted_standing, one_shelf_more}
use Rattle.replica_exchange.proofs.order.StampOrder.standing_rows.Goals as goal

pub loop-archive-preserved : goal.loop-archive-preserved
loop-archive-preserved c = record {
  listed = one_shelf_more (map stamp_and_key c.loop-archive.rows.items) (map stamp_and_key c.list_shelf.new.rows.items) (map deref_pair c.loop-archive.yielded)
      _ (arc_value c.in_ok-name.name) c.in-Some.archive.now
      c.in-Some.shelf.now c.loop-archive.invariant.listed c.in_ok-list_shelf.ensures c.in_ok-name.ensures.name (map_push deref_pair c.loop-archive.yielded (c.in-Some.archive, c.in-Some.shelf));
  same = c.name.ensures.same ∙ c.loop-archive.invariant.same;
}

pub returns-clause-standing : goal.returns-clause-standing
returns-clause-standing c =
    let whole = iter_end deref_pair c.args.shelves.now.entries c.loop-archive.yielded c.into_iter-archive-iterator.result c.loop-archive.archive-iterator c.next.new.self c.next.result
    c.into_iter-archive-iterator.ensures.into_iter_gives.0 c.loop-archive.yielded_by c.in-None.is c.next.ensures.steps in
    sorted_standing c.args.shelves.now c.requires c.loop-archive.rows.items c.sort_unstable_by_key.new.self.items
    (c.loop-archive.invariant.listed ∙ ap (λ (ss : List (List ℕ × Slots)). flat_map shelf_order ss) whole.0) c.sort_unstable_by_key.ensures.permutation

pub returns-clause-rises : goal.returns-clause-rises
returns-clause-rises c = IsNonDecreasingBy-from_sort_by_key (λ (row : OrderRow). row.stamp) _ c.sort_unstable_by_key.ensures.sorted (λ a r q k. search rules)
