use Rattle.std.proofs.Common.{◌≡◌, ◌∷◌, ℕ, map, take}
use Rattle.memento_sets.specs.MementoSets.{Mementos}
use Rattle.harvest_lattice.specs.Knowledge.{union_all}
use Rattle.harvest_lattice.proofs.ordered.widest.Given as goal

abbrev pub invariant-loop-part : goal.invariant-loop-part
invariant-loop-part l = l.widest.1 ≡ union_all (map (λ (p : ℕ × Mementos). p.1) (l.first ∷ take l.part-index l.later))
