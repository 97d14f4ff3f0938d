use Rattle.std.proofs.Common.{ℕ, ◌++◌, List, Option, map, ap, ◌∙◌}
use Rattle.std.specs.Arc.{arc_value}
use Rattle.std.specs.List.{flat_map}
use Rattle.std.specs.Map.Iter.{deref_pair}
use Rattle.std.proofs.lemmas.Map.Iter.{iter_end}
use Rattle.replica_exchange.specs.StampOrder.{stamp_and_key, row_with}
use Rattle.replica_exchange.proofs.order.list_shelf.Goals as goal

pub returns : goal.returns
returns c =
    let start = c.into_iter-original-iterator.ensures.into_iter_gives ∙ c.iter-original-items.ensures in
    let whole = iter_end deref_pair _ c.loop-original.yielded _ _ _ _ start c.loop-original.yielded_by c.in-None.is c.next.ensures.steps in
    c.loop-original.invariant
    ∙ ap (λ (es : List (List ℕ × Option ℕ)). map stamp_and_key c.args.rows.now.items ++ flat_map (λ (slot : List ℕ × Option ℕ). row_with (arc_value c.args.name.now, slot.0) slot.1) es) whole.0
