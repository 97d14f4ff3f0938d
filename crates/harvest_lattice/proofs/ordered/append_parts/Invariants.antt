use Rattle.std.proofs.Common.{◌≡◌, ◌++◌, drop}
use Rattle.harvest_lattice.specs.Knowledge.{items_of}
use Rattle.harvest_lattice.proofs.ordered.append_parts.Given as goal

abbrev pub invariant-loop-part : goal.invariant-loop-part
invariant-loop-part l = l.list.items ++ items_of (drop l.part-index l.parts) ≡ l.initial.list.items ++ items_of l.parts
