use Rattle.std.proofs.Common.{◌≡◌, ◌+◌, ◌≤◌, length}
use Rattle.memento_index.specs.Counts.{whole}
use Rattle.memento_index.proofs.counts.lift.Given as goal

abbrev pub invariant-loop-list : goal.invariant-loop-list
invariant-loop-list l = record {
  whole : whole l.list.entries l.lifted.entries ≡ whole l.initial.list.entries l.initial.lifted.entries;
  room : length l.list.entries + length l.lifted.entries ≤ l.lifted.room;
  len : length l.list.entries + length l.lifted.entries ≡ length l.initial.list.entries + length l.initial.lifted.entries;
  list_room : l.initial.list.room ≤ l.list.room;
  lifted_room : l.initial.lifted.room ≤ l.lifted.room;
}

abbrev pub decreases-loop-list : goal.decreases-loop-list
decreases-loop-list l = length l.list.entries
