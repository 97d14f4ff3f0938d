use Rattle.std.proofs.Common.{Option, ◌<◌, ◌^◌, ℕ, get_or, sym, subst, arith}
use Rattle.std.specs.Int.{IsInRange}
use Rattle.std.specs.Prelude.{IfNone}
use Rattle.std.proofs.lemmas.Grind.{common_steps}
use Rattle.text_fields.specs.Decimals.{IsTooLarge}
use Rattle.text_fields.proofs.DecimalLemmas.{writes_more, writes_no_more}
use Rattle.text_fields.proofs.decimals.read_on.Goals as goal

pub returns-in_err-number-clause-none : goal.returns-in_err-number-clause-none
returns-in_err-number-clause-none c =
    let text = c.args.text.now in
    let count = c.loop-count.count in
    let range : IsInRange 48 57 (get_or text count 0) = grind (arith, common_steps) in
    subst (λ (r : Option (ℕ × ℕ)). IfNone r (IsTooLarge text)) (sym c.from_residual.ensures)
    (writes_no_more text count c.loop-count.number c.loop-count-test.true c.loop-count.invariant range (λ fits. c.in_err-number.ensures fits))

pub loop-count-preserved : goal.loop-count-preserved
loop-count-preserved c =
    let step = c.in_ok-number.ensures in
    writes_more _ _ _ _ c.loop-count-test.true c.loop-count.invariant step.0.0 (sym step.1) (subst (λ n. n < 2 ^ 64) (sym step.1) step.0.1)
