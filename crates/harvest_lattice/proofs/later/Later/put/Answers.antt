use Rattle.std.proofs.Common.{◌≡◌, ℕ, ◌∷◌, ◌++◌, List, take, drop, true, false, sym, ap, subst, ◌∙◌}
use Rattle.std.specs.Prelude.{slice_get}
use Rattle.std.proofs.lemmas.Result.{on_ok_weaker}
use Rattle.memento_sets.specs.MementoSets.{Mementos}
use Rattle.harvest_lattice.specs.Parts.{IsPlace, is_of, united_at}
use Rattle.harvest_lattice.proofs.PartLists.{united_placed, inserted_placed}
use Rattle.harvest_lattice.proofs.later.Later.put.Goals as goal

pub returns-then-has_at-clause-ok : goal.returns-then-has_at-clause-ok
returns-then-has_at-clause-ok c =
    let es = c.args.self.now in
    let p = c.args.part in
    let k = c.count_below-place.result in
    let place : IsPlace es p.0 k = subst (λ r. IsPlace es r k) c.revision.ensures
    (subst (λ (xs : List (ℕ × Mementos)). IsPlace xs c.revision.result k) c.as_slice.ensures
    c.count_below-place.ensures.place) in
    let here : is_of p.0 (slice_get es k) ≡ true = ap (λ r. is_of r (slice_get es k)) (sym c.revision-2.ensures) ∙ (sym c.has_at.ensures ∙ c.if-has_at.true) in
    on_ok_weaker c.unite.result (λ is. is ∙ (ap (united_at es k) c.into_set.ensures ∙ united_placed es k p place here)) c.unite.ensures.ok

pub returns-clause-ok : goal.returns-clause-ok
returns-clause-ok c =
    let es = c.args.self.now in
    let p = c.args.part in
    let k = c.count_below-place.result in
    let place : IsPlace es p.0 k = subst (λ r. IsPlace es r k) c.revision.ensures
    (subst (λ (xs : List (ℕ × Mementos)). IsPlace xs c.revision.result k) c.as_slice.ensures
    c.count_below-place.ensures.place) in
    let none : is_of p.0 (slice_get es k) ≡ false = ap (λ r. is_of r (slice_get es k)) (sym c.revision-2.ensures)
    ∙ (sym c.has_at.ensures ∙ c.if-has_at.false) in
    on_ok_weaker c.insert.result (λ is. is ∙ (ap (λ (q : ℕ × Mementos). take k es ++ q ∷ drop k es) c.in_ok-placed.ensures
    ∙ inserted_placed es k p place none)) c.insert.ensures.ok
