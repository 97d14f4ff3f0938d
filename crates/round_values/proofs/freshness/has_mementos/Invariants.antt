use Rattle.std.proofs.Common.{◌≡◌, false, take}
use Rattle.std.specs.List.{list_any}
use Rattle.std.specs.FinMap as map
use Rattle.round_values.specs.Freshness.{has_some}
use Rattle.round_values.proofs.freshness.has_mementos.Given as goal

-- none of the revisions that were looked at has a memento
abbrev pub invariant-loop-k : goal.invariant-loop-k
invariant-loop-k l = list_any has_some (take l.k (map.entries l.fn.entry.revisions)) ≡ false
