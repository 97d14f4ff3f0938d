use Rattle.delta_parts.proofs.TextLemmas.{cause_passed, delta_refused, head_refused}
use Rattle.delta_parts.proofs.reading.read_part.Goals as goal

pub returns-in_err-head-clause-cause : goal.returns-in_err-head-clause-cause
returns-in_err-head-clause-cause c =
    let text = c.args.text.now in
    cause_passed text c.from_residual.result c.in_err-head.field-0.0 c.from_residual.ensures.1 (head_refused text c.in_err-head.field-0.0 c.in_err-head.ensures.refused)

pub returns-in_err-delta-clause-cause : goal.returns-in_err-delta-clause-cause
returns-in_err-delta-clause-cause c =
    let text = c.args.text.now in
    cause_passed text c.from_residual-in_err-delta.result c.in_err-delta.field-0.0 c.from_residual-in_err-delta.ensures.1
    (delta_refused text c.in_ok-head.rest.now _ c.in_ok-head.ensures.found c.in_err-delta.field-0.0 c.in_err-delta.ensures.cause)
