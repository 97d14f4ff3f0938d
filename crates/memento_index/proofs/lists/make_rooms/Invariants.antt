use Rattle.std.proofs.Common.{◌≡◌, ℕ, List, None}
use Rattle.std.specs.BTreeMap as tree
use Rattle.std.specs.BTreeMap.{is_at}
use Rattle.std.specs.Map.{lookup}
use Rattle.memento_time.specs.Mementos.{text_cmp}
use Rattle.memento_index.specs.Lists.{Grows}
use Rattle.memento_index.proofs.ListLemmas.{HasRoomOr}
use Rattle.memento_index.proofs.lists.make_rooms.Given as goal

abbrev pub invariant-loop-original : goal.invariant-loop-original
invariant-loop-original l = record {
  grow : (o : List ℕ) → Grows (tree.get text_cmp l.initial.lists o) (tree.get text_cmp l.lists o);
  come : (o : List ℕ) → tree.get text_cmp l.all o ≡ None → lookup (is_at (text_cmp o)) l.original-iterator ≡ None;
  others : (o : List ℕ) → tree.get text_cmp l.all o ≡ None → tree.get text_cmp l.lists o ≡ tree.get text_cmp l.initial.lists o;
  lifted : l.lifted.entries ≡ l.initial.lifted.entries;
  room : (o : List ℕ) → HasRoomOr l.keys l.all l.original-iterator l.lists l.lifted.room o;
}
