use Rattle.std.proofs.Common.{ℕ, ◌<◌, get_or}
use Rattle.memento_sets.specs.MementoSets.{Mementos}
use Rattle.harvest_lattice.specs.Parts.{PartWithin}
use Rattle.harvest_lattice.proofs.reading.Reading.covers_all.Given as goal

abbrev pub invariant-loop-part : goal.invariant-loop-part
invariant-loop-part l = (k : ℕ) (d : ℕ × Mementos) → k < l.part-index → PartWithin l.self (get_or l.parts k d)
