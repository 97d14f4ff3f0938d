use Rattle.std.proofs.Common.{◌≡◌, Option, [], length, ℕ, sym, subst, arith}
use Rattle.std.specs.Prelude.{IfSome, IfNone}
use Rattle.std.proofs.lemmas.Grind.{common_steps}
use Rattle.text_fields.specs.Decimals.{IsDecimal, number_of}
use Rattle.text_fields.proofs.DecimalLemmas.{number_found, whole_leading, leading_whole, leading_part}
use Rattle.text_fields.proofs.decimals.read_decimal.Goals as goal

pub returns-in_err-number : goal.returns-in_err-number
returns-in_err-number c =
    let digits = c.args.digits.now in
    let none : (n : ℕ) → ¬ IsDecimal digits n = λ n laid. c.in_err-number.ensures.none n [] (whole_leading digits n laid) in
    subst (λ (r : Option ℕ). record { found : IfSome r (IsDecimal digits); none : IfNone r ((n : ℕ) → ¬ IsDecimal digits n); value : r ≡ number_of digits })
    (sym c.from_residual.ensures) (record { found = tt; none = none; value = number_found digits _ tt none })

pub returns-then-not-is_empty : goal.returns-then-not-is_empty
returns-then-not-is_empty c =
    let digits = c.args.digits.now in
    let read = c.in_ok-number in
    let more : ¬ (length read.rest.now ≡ 0) = λ empty. absurd (grind (arith, common_steps, empty)) in
    let none = leading_part digits read.number read.rest.now more read.ensures.found in
    record { found = tt; none = none; value = number_found digits _ tt none }

pub returns : goal.returns
returns c =
    let digits = c.args.digits.now in
    let read = c.in_ok-number in
    let empty : length read.rest.now ≡ 0 = grind (arith, common_steps) in
    let found = leading_whole digits read.number read.rest.now empty read.ensures.found in
    record { found = found; none = tt; value = number_found digits _ found tt }
