use Rattle.std.proofs.Common.{◌≡◌, ℕ, ◌≤◌, List, []}
use Rattle.std.specs.List.Sorted.{IsStrictlySortedBy}
use Rattle.std.specs.Map.{keys_of}
use Rattle.memento_time.specs.Mementos.{text_cmp}
use Rattle.memento_index.proofs.ListLemmas.{IsCountedOr}
use Rattle.memento_index.proofs.lists.recount_all.Given as goal

abbrev pub invariant-loop-entry : goal.invariant-loop-entry
invariant-loop-entry l = record {
  sorted : IsStrictlySortedBy text_cmp (keys_of l.entry-iterator);
  each : (o : List ℕ) → IsCountedOr l.fn.all l.entry-iterator l.initial.lists l.lists o;
  settled : l.lifted.entries ≡ [];
  room : l.initial.lifted.room ≤ l.lifted.room;
}
