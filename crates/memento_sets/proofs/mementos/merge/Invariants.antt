use Rattle.std.proofs.Common.{◌≡◌, ◌+◌, ◌≤◌, ◌++◌, ◌||◌, reverse, length, vec_len}
use Rattle.std.specs.List.{list_any}
use Rattle.std.specs.List.Sorted.{IsStrictlySortedBy}
use Rattle.std.specs.Ordering.{eq_by_cmp}
use Rattle.std.specs.Vec.{vec_capacity}
use Rattle.std.specs.Vec.Iter.{into_iter_items, into_iter_len}
use Rattle.memento_time.specs.Mementos.{memento_cmp}
use Rattle.memento_time.specs.declared.mementos.Memento.{Memento}
use Rattle.memento_sets.proofs.mementos.merge.Given as goal

abbrev pub invariant-loop-memento : goal.invariant-loop-memento
invariant-loop-memento l = record {
  in_order : IsStrictlySortedBy memento_cmp (l.list.items ++ reverse l.lifted.items);
  rest : IsStrictlySortedBy memento_cmp (l.list.items ++ into_iter_items l.memento-iterator);
  members : (m : Memento) → (list_any (eq_by_cmp memento_cmp m) (l.list.items ++ reverse l.lifted.items)
      || list_any (eq_by_cmp memento_cmp m) (into_iter_items l.memento-iterator))
      ≡ (list_any (eq_by_cmp memento_cmp m) (l.initial.list.items ++ reverse l.initial.lifted.items)
      || list_any (eq_by_cmp memento_cmp m) l.fn.added.items);
  count : into_iter_len l.memento-iterator ≡ length (into_iter_items l.memento-iterator);
  room : vec_len l.list + vec_len l.lifted + into_iter_len l.memento-iterator ≤ vec_capacity l.list;
}
