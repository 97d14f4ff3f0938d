use Rattle.std.proofs.Common.{◌≡◌, ◌+◌, ◌≤◌, length}
use Rattle.std.specs.Vec.Iter.{into_iter_items, into_iter_len}
use Rattle.memento_index.specs.Counts.{whole, IsTally}
use Rattle.memento_index.proofs.Tallies.{IsBetween}
use Rattle.memento_index.proofs.counts.recount.Given as goal

abbrev pub invariant-loop-step : goal.invariant-loop-step
invariant-loop-step l = record {
  tally : IsTally (whole l.list.entries l.lifted.entries);
  list_room : length l.list.entries + length l.lifted.entries + into_iter_len l.step-iterator ≤ l.list.room;
  lifted_room : length l.list.entries + length l.lifted.entries + into_iter_len l.step-iterator ≤ l.lifted.room;
  count : into_iter_len l.step-iterator ≡ length (into_iter_items l.step-iterator);
  lifted_grows : l.initial.lifted.room ≤ l.lifted.room;
  between : IsBetween (into_iter_items l.initial.step-iterator) (into_iter_items l.step-iterator) l.initial.list.entries
      (whole l.list.entries l.lifted.entries);
}
