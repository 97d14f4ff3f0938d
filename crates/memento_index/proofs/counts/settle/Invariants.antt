use Rattle.std.proofs.Common.{◌≡◌, ◌+◌, ◌≤◌, length}
use Rattle.memento_index.specs.Counts.{whole}
use Rattle.memento_index.proofs.counts.settle.Given as goal

abbrev pub invariant-loop-counted : goal.invariant-loop-counted
invariant-loop-counted l = record {
  whole : whole l.list.entries l.lifted.entries ≡ whole l.initial.list.entries l.initial.lifted.entries;
  room : length l.list.entries + length l.lifted.entries ≤ l.list.room;
  lifted_room : l.initial.lifted.room ≤ l.lifted.room;
}

abbrev pub decreases-loop-counted : goal.decreases-loop-counted
decreases-loop-counted l = length l.lifted.entries
