use Rattle.std.proofs.Common.{[], sym, subst, ◌∙◌}
use Rattle.std.proofs.lemmas.Bool.{eqb-true}
use Rattle.harvest_lattice.specs.Lattice.{Kept}
use Rattle.harvest_lattice.specs.Parts.{AllStay, kept_in}
use Rattle.harvest_lattice.specs.Shapes.{CanTake}
use Rattle.harvest_lattice.specs.declared.shape.Shape.{Shape}
use Rattle.harvest_lattice.proofs.shape.Shape.can_take.Goals as goal

pub returns-in-One : goal.returns-in-One
returns-in-One c = λ t. subst (λ (shape : Shape). CanTake shape c.args.is_whole c.args.part.now) (sym c.in-One.is)
    (sym c.revision.ensures ∙ (eqb-true c.revision.result c.revision-in-One.result t ∙ c.revision-in-One.ensures))

pub returns-in-Mixed : goal.returns-in-Mixed
returns-in-Mixed c = λ t. subst (λ (shape : Shape). CanTake shape c.args.is_whole c.args.part.now) (sym c.in-Mixed.is)
    (subst (λ (k : Kept). AllStay k (kept_in c.args.is_whole c.args.part.now [])) (c.reading.ensures ∙ c.deref.ensures)
    (subst (λ (k : Kept). AllStay c.reading.result k) c.of-coming.ensures (c.stays_with.ensures t)))
