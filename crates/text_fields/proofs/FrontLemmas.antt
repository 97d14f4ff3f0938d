-- What stands behind a front is found where the text begins with the front, and nothing where it doesn't.
use Rattle.std.proofs.Common.{◌≡◌, ◌≢◌, ℕ, ◌+◌, Bool, true, false, List, ◌++◌, length, take, drop, Option, None, Some, refl, sym, ap, ◌∙◌, inl, inr, Bor}
use Rattle.std.specs.Prelude.{nat_eq, MatchOption, IfSome, IfNone, if◌then◌else◌, ◌↔◌}
use Rattle.std.specs.List.{starts_with}
use Rattle.std.specs.Option.{option_map}
use Rattle.std.specs.Cmp.Lexicographic.{pointwise}
use Rattle.std.proofs.lemmas.Bool.{cases_Bool}
use Rattle.std.proofs.lemmas.Bool.Decides.{Decides-eqb}
use Rattle.std.proofs.lemmas.List.{take_at, drop_at, take-append-drop}
use Rattle.std.proofs.lemmas.Option.{same_Some}
use Rattle.std.proofs.lemmas.Slice.Eq.{bytes_eq-Decides, starts_is}
use Rattle.text_fields.specs.Finds.{Finds}
use Rattle.text_fields.specs.Parts.{behind}

pub front_found : (text front rest : List ℕ) → pointwise nat_eq (take (length front) text) front ≡ true → rest ≡ drop (length front) text → text ≡ front ++ rest
front_found text front rest test left =
    let same : take (length front) text ≡ front = (bytes_eq-Decides (take (length front) text) front).0 test in
    sym (take-append-drop (length front) text) ∙ (λ i. same i ++ sym left i)

pub front_refused : (text front : List ℕ) → pointwise nat_eq (take (length front) text) front ≡ false → (rest : List ℕ) → ¬ (text ≡ front ++ rest)
front_refused text front test rest whole =
    let same : take (length front) text ≡ front = ap (take (length front)) whole ∙ take_at front rest (length front) refl in
    let passes : pointwise nat_eq (take (length front) text) front ≡ true = (bytes_eq-Decides (take (length front) text) front).1 same in
    absurd (let both : true ≡ false = sym passes ∙ test in cc)

begins : (text front rest : List ℕ) → text ≡ front ++ rest → starts_with nat_eq text front ≡ true
begins text front rest whole = (starts_is Decides-eqb text front (starts_with nat_eq text front) refl).1 rest whole

begins_not : (text front : List ℕ) → ((rest : List ℕ) → text ≢ front ++ rest) → starts_with nat_eq text front ≡ false
begins_not text front other =
    elim (cases_Bool (starts_with nat_eq text front)) [
      | inl is ↦ absurd (other _ ((starts_is Decides-eqb text front (starts_with nat_eq text front) refl).0 is))
      | inr is ↦ is
    ]

pub fronts_are : (front text : List ℕ) → Finds (behind front text) (λ rest. text ≡ front ++ rest)
fronts_are front text rest = on (starts_with nat_eq text front) refl where
  on : (b : Bool) → starts_with nat_eq text front ≡ b → ((if b then Some (drop (length front) text) else None) ≡ Some rest) ↔ (text ≡ front ++ rest)
  on true is =
      let whole : text ≡ front ++ drop (length front) text = (starts_is Decides-eqb text front (starts_with nat_eq text front) refl).0 is in (
        λ found. whole ∙ ap (λ (t : List ℕ). front ++ t) (same_Some _ _ found),
        λ laid. ap (λ (t : List ℕ). Some t) (ap (drop (length front)) laid ∙ drop_at front rest (length front) refl),
      )
  on false is = (
    λ found. absurd (let same : None ≡ Some rest = found in cc),
    λ laid. absurd (let both : true ≡ false = sym (begins text front rest laid) ∙ is in cc),
  )

-- ---- in the words of the code

-- what is said of a front that is cut off
abbrev pub Cuts : List ℕ → List ℕ → Option (Bor (List ℕ)) → Type 0
Cuts front text cut =
    MatchOption cut (pointwise nat_eq (take (length front) text) front ≡ false)
    (λ x. (pointwise nat_eq (take (length front) text) front ≡ true) × (x.now ≡ drop (length front) text) × (length x.now + length front ≡ length text))

pub front_cut : (front text : List ℕ) (cut : Option (Bor (List ℕ))) → Cuts front text cut → IfSome cut (λ rest. (starts_with nat_eq text front ≡ true) × (rest.now ≡ drop (length front) text))
front_cut front text None cuts = tt
front_cut front text (Some rest) cuts = (begins text front rest.now (front_found text front rest.now cuts.0 cuts.1), cuts.1)

pub front_missed : (front text : List ℕ) (cut : Option (Bor (List ℕ))) → Cuts front text cut → IfNone cut (starts_with nat_eq text front ≡ false)
front_missed front text None cuts = begins_not text front (front_refused text front cuts)
front_missed front text (Some rest) cuts = tt

pub cut_behind : (front text : List ℕ) (cut : Option (Bor (List ℕ))) → Cuts front text cut → option_map (λ rest. rest.now) cut ≡ behind front text
cut_behind front text None cuts = sym (ap (λ (b : Bool). if b then Some (drop (length front) text) else None) (front_missed front text None cuts))
cut_behind front text (Some rest) cuts =
    let cut = front_cut front text (Some rest) cuts in
    ap (λ (t : List ℕ). Some t) cut.1 ∙ sym (ap (λ (b : Bool). if b then Some (drop (length front) text) else None) cut.0)
