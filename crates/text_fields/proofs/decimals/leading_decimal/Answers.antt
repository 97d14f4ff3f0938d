use Rattle.std.proofs.Common.{Bor, List, Option, ℕ, refl, sym, subst}
use Rattle.std.specs.Prelude.{IfNone}
use Rattle.std.proofs.lemmas.List.{take_rest}
use Rattle.text_fields.specs.Decimals.{BeginsWithDecimal}
use Rattle.text_fields.proofs.DecimalLemmas.{leading_found, front_refused, large_refused}
use Rattle.text_fields.proofs.decimals.leading_decimal.Goals as goal

pub returns-in_err-number-clause-none : goal.returns-in_err-number-clause-none
returns-in_err-number-clause-none c =
    let text = c.args.text.now in
    subst (λ (r : Option (ℕ × Bor (List ℕ))). IfNone r ((n : ℕ) (rest : List ℕ) → ¬ BeginsWithDecimal text n rest)) (sym c.from_residual.ensures)
    (large_refused text c.in_err-number.ensures.none)

pub returns-then-not-has_decimal_front-clause-none : goal.returns-then-not-has_decimal_front-clause-none
returns-then-not-has_decimal_front-clause-none c =
    let read = c.in_ok-number.ensures in
    front_refused c.args.text.now c.in_ok-number.count c.in_ok-number.number read.found read.stops (λ front. let no = c.if-not-has_decimal_front.ensures.1 front in absurd cc)

pub returns-clause-found : goal.returns-clause-found
returns-clause-found c =
    let text = c.args.text.now in
    let count = c.in_ok-number.count in
    let read = c.in_ok-number.ensures in
    let front = c.if-not-has_decimal_front.ensures.0 refl in
    subst (BeginsWithDecimal text c.in_ok-number.number) (sym (take_rest text count))
    (leading_found text count c.in_ok-number.number read.found read.stops front.0 front.1)
