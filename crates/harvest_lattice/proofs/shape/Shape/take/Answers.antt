use Rattle.std.proofs.Common.{◌≡◌, ◌||◌, [], ℕ, refl, sym, ap, subst, ◌∙◌}
use Rattle.memento_sets.specs.MementoSets.{Mementos}
use Rattle.harvest_lattice.specs.Lattice.{join_kept}
use Rattle.harvest_lattice.specs.Parts.{kept_in}
use Rattle.harvest_lattice.specs.Shapes.{kept_by, CanTake}
use Rattle.harvest_lattice.specs.declared.shape.Shape.{Shape}
use Rattle.harvest_lattice.proofs.Entries.{unite}
use Rattle.harvest_lattice.proofs.WaitingParts.{comes_to_first}
use Rattle.harvest_lattice.proofs.shape.Shape.take.Goals as goal

pub returns-in_ok-absorb-in-One-clause-ok : goal.returns-in_ok-absorb-in-One-clause-ok
returns-in_ok-absorb-in-One-clause-ok c =
    let w = c.args.is_whole in
    let p : ℕ × Mementos = c.args.part in
    let e : ℕ × Mementos = c.in-One.first in
    let a = kept_in c.in-One.mark e [] in
    let same : p.0 ≡ e.0 = subst (λ (shape : Shape). CanTake shape w p) c.in-One.is c.requires in
    ap (λ (q : ℕ × Mementos). kept_in (c.in-One.mark || w) q []) (c.in_ok-absorb-in-One.ensures.ok ∙ (λ i. (e.0, unite e.1 (c.into_set.ensures i))))
    ∙ ((comes_to_first c.in-One.mark w e p [] a (kept_in w p []) refl refl tt same).1
    ∙ ap (λ (shape : Shape). join_kept (kept_by shape) (kept_in w p [])) (sym c.in-One.is))
