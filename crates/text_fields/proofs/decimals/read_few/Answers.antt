use Rattle.std.proofs.Common.{get_or, arith}
use Rattle.std.specs.Int.{IsInRange}
use Rattle.std.proofs.lemmas.Grind.{common_steps}
use Rattle.text_fields.proofs.DecimalLemmas.{few_are_small, writes_more}
use Rattle.text_fields.proofs.decimals.read_few.Goals as goal

pub overflow_mul-number : goal.overflow_mul-number
overflow_mul-number c =
    let below = few_are_small c.args.text.now c.loop-count.count c.loop-count.number c.loop-count.invariant.0 (omega arith) in
    omega (arith, below)

pub overflow_add-number : goal.overflow_add-number
overflow_add-number c =
    let below = few_are_small c.args.text.now c.loop-count.count c.loop-count.number c.loop-count.invariant.0 (omega arith) in
    omega (arith, below)

pub loop-count-preserved : goal.loop-count-preserved
loop-count-preserved c =
    let text = c.args.text.now in
    let count = c.loop-count.count in
    let below = few_are_small text count c.loop-count.number c.loop-count.invariant.0 (omega arith) in
    let range : IsInRange 48 57 (get_or text count 0) = grind (arith, common_steps) in
    (writes_more text count c.loop-count.number _ (omega arith) c.loop-count.invariant.0 range (omega arith) (omega (arith, below)), omega arith)
