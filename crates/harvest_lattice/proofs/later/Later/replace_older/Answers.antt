use Rattle.std.proofs.Common.{◌≡◌, ℕ, ◌∷◌, List, true, false, IfOk, Result, Ok, Err, sym, ap, subst, ◌∙◌}
use Rattle.std.specs.Prelude.{slice_get}
use Rattle.memento_sets.specs.MementoSets.{Mementos}
use Rattle.harvest_lattice.specs.Parts.{IsPlace, is_of}
use Rattle.harvest_lattice.proofs.PartLists.{united_stays, inserted_stays}
use Rattle.harvest_lattice.proofs.later.Later.replace_older.Goals as goal

if_ok : {T E : Type 0} {P Q : T → Type 0} (r : Result T E) → ((x : T) → P x → Q x) → IfOk r P → IfOk r Q
if_ok (Ok x) f h = f x h
if_ok (Err e) f h = tt

pub returns-then-has_at-clause-ok : goal.returns-then-has_at-clause-ok
returns-then-has_at-clause-ok c =
    let es = c.args.self.now in
    let p = c.args.part in
    let k = c.count_below-place.result in
    let place : IsPlace es p.0 k = subst (λ r. IsPlace es r k) c.revision.ensures
    (subst (λ (xs : List (ℕ × Mementos)). IsPlace xs c.revision.result k) c.as_slice.ensures
    c.count_below-place.ensures.place) in
    let here : is_of p.0 (slice_get es k) ≡ true = ap (λ r. is_of r (slice_get es k)) (sym c.revision-2.ensures) ∙ (sym c.has_at.ensures ∙ c.if-has_at.true) in
    if_ok c.replace_first.result (λ first is. is ∙ united_stays es k p c.requires place here) c.replace_first.ensures.ok

pub returns-clause-ok : goal.returns-clause-ok
returns-clause-ok c =
    let es = c.args.self.now in
    let p = c.args.part in
    let k = c.count_below-place.result in
    let place : IsPlace es p.0 k = subst (λ r. IsPlace es r k) c.revision.ensures
    (subst (λ (xs : List (ℕ × Mementos)). IsPlace xs c.revision.result k) c.as_slice.ensures
    c.count_below-place.ensures.place) in
    let none : is_of p.0 (slice_get es k) ≡ false = ap (λ r. is_of r (slice_get es k)) (sym c.revision-2.ensures)
    ∙ (sym c.has_at.ensures ∙ c.if-has_at.false) in
    ap (λ (xs : List (ℕ × Mementos)). p ∷ xs) c.in_ok-skip.ensures.ok ∙ inserted_stays es k p c.requires place none
