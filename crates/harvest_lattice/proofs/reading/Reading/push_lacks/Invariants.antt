use Rattle.std.proofs.Common.{◌≡◌, ◌++◌, drop}
use Rattle.harvest_lattice.specs.Lacks.{lacking}
use Rattle.harvest_lattice.proofs.reading.Reading.push_lacks.Given as goal

abbrev pub invariant-loop-part : goal.invariant-loop-part
invariant-loop-part l = l.parts.items ++ lacking l.self (drop l.part-index l.more) ≡ l.initial.parts.items ++ lacking l.self l.more
