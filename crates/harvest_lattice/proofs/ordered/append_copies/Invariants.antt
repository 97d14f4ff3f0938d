use Rattle.std.proofs.Common.{◌≡◌, ◌++◌, take}
use Rattle.harvest_lattice.proofs.ordered.append_copies.Given as goal

abbrev pub invariant-loop-memento : goal.invariant-loop-memento
invariant-loop-memento l = l.list.items ≡ l.initial.list.items ++ take l.memento-index l.mementos
