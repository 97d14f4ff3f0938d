use Rattle.std.proofs.Common.{◌≡◌, ◌+◌, ◌≤◌, ◌++◌, ◌∷◌, [], reverse, vec_len}
use Rattle.std.specs.List.Sorted.{IsStrictlySortedBy}
use Rattle.std.specs.Vec.{vec_capacity}
use Rattle.memento_time.specs.Mementos.{memento_cmp}
use Rattle.memento_sets.proofs.mementos.pass.Given as goal

abbrev pub invariant-loop-next : goal.invariant-loop-next
invariant-loop-next l = record {
  whole : l.list.items ++ reverse l.lifted.items ≡ l.initial.list.items ++ reverse l.initial.lifted.items;
  below : IsStrictlySortedBy memento_cmp (l.list.items ++ l.memento ∷ []);
  room : vec_len l.list + vec_len l.lifted ≤ vec_capacity l.list;
  len : vec_len l.list + vec_len l.lifted ≡ vec_len l.initial.list + vec_len l.initial.lifted;
  capacity : vec_capacity l.initial.list ≤ vec_capacity l.list;
}

abbrev pub decreases-loop-next : goal.decreases-loop-next
decreases-loop-next l = vec_len l.lifted
