use Rattle.std.proofs.Common.{◌≡◌, ◌≤◌, take, length}
use Rattle.memento_index.specs.Tallies.{each_once}
use Rattle.memento_index.proofs.listing.count_each.Given as goal

abbrev pub invariant-loop-memento : goal.invariant-loop-memento
invariant-loop-memento l = record {
  entries : l.tally.entries ≡ each_once (take l.memento-index l.mementos);
  room : length l.mementos ≤ l.tally.room;
}
