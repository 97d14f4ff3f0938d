use Rattle.std.proofs.Common.{◌≡◌, take}
use Rattle.memento_time.proofs.builder.packed.Given as goal

abbrev pub invariant-loop-memento : goal.invariant-loop-memento
invariant-loop-memento l = l.builder ≡ take l.memento-index l.list
