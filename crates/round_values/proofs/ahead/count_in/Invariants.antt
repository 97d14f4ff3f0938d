use Rattle.std.proofs.Common.{◌≡◌, ◌≤◌, length, take}
use Rattle.std.specs.FinMap as map
use Rattle.std.specs.List.{filter}
use Rattle.round_values.specs.Ahead.{is_ahead}
use Rattle.round_values.proofs.ahead.count_in.Given as goal

abbrev pub invariant-loop-k : goal.invariant-loop-k
invariant-loop-k l = record {
  count : l.count ≡ length (filter (is_ahead l.last.0) (take l.k (map.keys l.entry.revisions)));
  few : l.count ≤ l.k;
}
