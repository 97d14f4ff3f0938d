use Rattle.std.proofs.Common.{◌≡◌, take}
use Rattle.std.specs.FinMap as map
use Rattle.harvest_lattice.specs.Parts.{current}
use Rattle.harvest_lattice.proofs.reading.Reading.current.Given as goal

abbrev pub invariant-loop-k : goal.invariant-loop-k
invariant-loop-k l = l.parts.items ≡ current l.whole (take l.k (map.entries l.self.revisions))
