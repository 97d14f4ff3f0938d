-- Each archive stands where its own acts lead.
use Rattle.std.proofs.Common.{◌≡◌, ◌≢◌, ◌⊎◌, ⊎_elim, inl, inr, ℕ, ◌<◌, ◌==◌, true, false, List, [], ◌∷◌, Some, length, option_map, slice_get, slice_set, refl, sym, ap, subst, ◌∙◌, arith}
use Rattle.std.proofs.Math.ListN.{length-set}
use Rattle.std.proofs.lemmas.Bool.{cases_Bool}
use Rattle.std.proofs.lemmas.Bool.Decides.{nat_tests}
use Rattle.std.proofs.lemmas.List.{get_or-set_same, get_or-set_other}
use Rattle.std.proofs.lemmas.Option.{get_or_from_slice_get, slice_get-map, slice_get_read, slice_get_within, same_Some}
use Rattle.harvest_schedule.specs.declared.moods.Limits.{Limits}
use Rattle.harvest_schedule.specs.Standing.{Standing}
use Rattle.harvest_schedule.specs.Lanes.{after_begin}
use Rattle.harvest_schedule.specs.Steps.{Act, Can, Does, after_act}
use Rattle.harvest_schedule.specs.Runs.{Begins, Call, EachIsLed, Leads, Of, acts_of}

get_set : (xs : List Standing) (i : ℕ) (x : Standing) → i < length xs → slice_get (slice_set xs i x) i ≡ Some x
get_set xs i x within =
    slice_get_read (slice_set xs i x) (length xs) i x (sym (length-set xs i x)) within (sym (get_or-set_same xs i x x within))

get_set_other : (xs : List Standing) (i j : ℕ) (x y : Standing) → j ≢ i → slice_get xs j ≡ Some y
    → slice_get (slice_set xs i x) j ≡ Some y
get_set_other xs i j x y other at =
    slice_get_read (slice_set xs i x) (length xs) j y (sym (length-set xs i x)) (slice_get_within xs j y at)
    (sym (get_or-set_other xs i j x y other ∙ get_or_from_slice_get xs j y y at))

same_or_other : (i j : ℕ) → (i ≡ j) ⊎ (j ≢ i)
same_or_other i j =
    ⊎_elim (λ (e : (i == j) ≡ true). inl (grind (arith, nat_tests, e))) (λ (e : (i == j) ≡ false). inr (grind (arith, nat_tests, e)))
    (cases_Bool (i == j))

acts_same : (archive other : ℕ) (act : Act) (calls : List Call) → other ≡ archive
    → act ∷ acts_of archive calls ≡ acts_of archive (Of other act ∷ calls)
acts_same archive other act calls e = (let t : (other == archive) ≡ true = grind (arith, nat_tests, e) in rw t refl)

acts_other : (archive other : ℕ) (act : Act) (calls : List Call) → archive ≢ other
    → acts_of archive calls ≡ acts_of archive (Of other act ∷ calls)
acts_other archive other act calls n = (let t : (other == archive) ≡ false = grind (arith, nat_tests, n) in rw t refl)

-- the standing that a call wrote is that of the archive
written : (limits : Limits) (archive other : ℕ) (act : Act) (old new : List Standing) (s : Standing) → other ≡ archive
    → slice_get old archive ≡ Some s → Does limits other act old new → Can act s × (slice_get new archive ≡ Some (after_act limits act s))
written limits archive other act old new s same at does =
    let is : does.standing ≡ s = same_Some does.standing s (sym does.at ∙ (ap (slice_get old) same ∙ at)) in (
      subst (Can act) is does.can,
      subst (λ (x : Standing). slice_get new archive ≡ Some (after_act limits act x)) is
          (subst (λ k. slice_get new k ≡ Some (after_act limits act does.standing)) same
          (subst (λ xs. slice_get xs other ≡ Some (after_act limits act does.standing)) (sym does.standings)
          (get_set old other (after_act limits act does.standing) (slice_get_within old other does.standing does.at)))),
    )

unwritten : (limits : Limits) (archive other : ℕ) (act : Act) (old new : List Standing) (s : Standing) → archive ≢ other
    → slice_get old archive ≡ Some s → Does limits other act old new → slice_get new archive ≡ Some s
unwritten limits archive other act old new s apart at does =
    subst (λ xs. slice_get xs archive ≡ Some s) (sym does.standings)
    (get_set_other old other archive (after_act limits act does.standing) s apart at)

pub each_is_led : EachIsLed
each_is_led limits [] old new archive s t runs at_old at_new =
    same_Some t s (sym at_new ∙ (ap (λ xs. slice_get xs archive) runs ∙ at_old))
each_is_led limits (Of other act ∷ calls) old new archive s t runs at_old at_new =
    ⊎_elim
    (λ (same : other ≡ archive).
    let w = written limits archive other act old runs.0 s same at_old runs.1 in
    subst (λ acts. Leads limits acts s t) (acts_same archive other act calls same)
    (w.0, each_is_led limits calls runs.0 new archive (after_act limits act s) t runs.2 w.1 at_new))
    (λ (apart : archive ≢ other).
    subst (λ acts. Leads limits acts s t) (acts_other archive other act calls apart)
    (each_is_led limits calls runs.0 new archive s t runs.2 (unwritten limits archive other act old runs.0 s apart at_old runs.1) at_new))
    (same_or_other other archive)
each_is_led limits (Begins originals ∷ calls) old new archive s t runs at_old at_new = (
  runs.1.0 archive s at_old,
  each_is_led limits calls runs.0 new archive (after_begin originals s) t runs.2
      (ap (λ xs. slice_get xs archive) runs.1.1 ∙ (slice_get-map (after_begin originals) old archive ∙ ap (option_map (after_begin originals)) at_old)) at_new,
)
