use Rattle.std.proofs.Common.{◌≡◌, ◌++◌, take}
use Rattle.memento_index.specs.Lists.{each_step}
use Rattle.memento_index.proofs.counted.push_each.Given as goal

abbrev pub invariant-loop-memento : goal.invariant-loop-memento
invariant-loop-memento l = l.steps.items ≡ l.initial.steps.items ++ each_step l.begins (take l.memento-index l.mementos)
