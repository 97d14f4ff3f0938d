use Rattle.std.proofs.Common.{◌∷◌, sym, ap, subst, ◌∙◌, ℕ, List}
use Rattle.memento_sets.specs.MementoSets.{Mementos}
use Rattle.harvest_lattice.specs.Parts.{PartsRise, kept_in}
use Rattle.harvest_lattice.proofs.sequence.Sequence.reading.Goals as goal

pub of-requires : goal.of-requires
of-requires c = subst (λ (es : List (ℕ × Mementos)). PartsRise (c.self.inside.first ∷ es)) (sym c.as_slice.ensures) c.self.invariant

pub returns : goal.returns
returns c = c.of.ensures ∙ (ap (kept_in c.self.inside.is_whole c.self.inside.first) c.as_slice.ensures ∙ c.self.view_is)
