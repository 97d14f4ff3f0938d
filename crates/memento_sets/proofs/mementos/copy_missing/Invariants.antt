use Rattle.std.proofs.Common.{◌≡◌, not, take}
use Rattle.std.specs.List.{filter}
use Rattle.memento_sets.specs.Sets as set
use Rattle.memento_sets.proofs.mementos.copy_missing.Given as goal

abbrev pub invariant-loop-memento : goal.invariant-loop-memento
invariant-loop-memento l = l.rest ≡ filter (λ m. not (set.contains l.others m)) (take l.memento-index l.list)
