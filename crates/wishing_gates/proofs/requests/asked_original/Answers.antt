use Rattle.std.proofs.Common.{◌≡◌, ℕ, true, false, List, Option, drop, sym, ap, subst, ◌∙◌, arith}
use Rattle.std.specs.Prelude.{IfOk, nat_eq}
use Rattle.std.specs.List.{starts_with}
use Rattle.std.proofs.lemmas.Grind.{common_steps}
use Rattle.timegate.specs.Route.{is_timegate, timegates}
use Rattle.wishing_gates.specs.Asked.{gate_original, is_page, listing_original}
use Rattle.wishing_gates.proofs.AskedLemmas.{asked-gate, asked-listing, asked-refused}
use Rattle.wishing_gates.proofs.requests.asked_original.Goals as goal

pub returns-then-not-is_answered : goal.returns-then-not-is_answered
returns-then-not-is_answered c =
    let q = c.args.request.now in
    let page : is_page q ≡ false = sym c.is_page.ensures ∙ c.if-is_page.false in
    let refused : c.is_answered.result ≡ false = grind (arith, common_steps) in
    sym (asked-refused q page (sym c.is_answered.ensures ∙ refused))

pub returns-in-Some : goal.returns-in-Some
returns-in-Some c =
    let q = c.args.request.now in
    let page : is_page q ≡ false = sym c.is_page.ensures ∙ c.if-is_page.false in
    let method : c.is_answered.result ≡ true = grind (arith, common_steps) in
    let found = c.in-Some.ensures.found in
    let gate : is_timegate q ≡ true = ap (λ (t : List ℕ). starts_with nat_eq t timegates) (sym c.as_slice-target.ensures) ∙ found.0 in
    let named : c.in-Some.named.now ≡ drop 10 q.target = found.1 ∙ ap (λ (t : List ℕ). drop 10 t) c.as_slice-target.ensures in
    let asks = asked-gate q c.in-Some.named.now page (sym c.is_answered.ensures ∙ method) gate named in
    let P : Option (List ℕ) → Type 0 = λ o. IfOk c.gate_original.result (λ original. original ≡ o) in
    subst P (ap (λ (asked : List (List ℕ)). gate_original c.in-Some.named.now asked) c.as_slice.ensures ∙ sym asks) c.gate_original.ensures

pub returns-in-None : goal.returns-in-None
returns-in-None c =
    let q = c.args.request.now in
    let page : is_page q ≡ false = sym c.is_page.ensures ∙ c.if-is_page.false in
    let method : c.is_answered.result ≡ true = grind (arith, common_steps) in
    let gate : is_timegate q ≡ false = ap (λ (t : List ℕ). starts_with nat_eq t timegates) (sym c.as_slice-target.ensures) ∙ c.in-None.ensures.none in
    let asks = asked-listing q page (sym c.is_answered.ensures ∙ method) gate in
    let P : Option (List ℕ) → Type 0 = λ o. IfOk c.listing_original.result (λ original. original ≡ o) in
    subst P (ap (λ (t : List ℕ). listing_original t) c.as_slice-target.ensures ∙ sym asks) c.listing_original.ensures
