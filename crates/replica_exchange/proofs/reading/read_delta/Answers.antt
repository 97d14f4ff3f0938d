use Rattle.std.proofs.Common.{sym, subst}
use Rattle.replica_exchange.specs.Faults.{IsDeltaCause}
use Rattle.replica_exchange.proofs.DeltaLemmas.{delta_cause_passed, delta_has_front, delta_refused_line, delta_refused, delta_found}
use Rattle.replica_exchange.proofs.reading.read_delta.Goals as goal

pub returns-in_err-format-clause-cause : goal.returns-in_err-format-clause-cause
returns-in_err-format-clause-cause c =
    let text = c.args.text.now in
    let refused = c.in_err-format.ensures.refused in
    delta_cause_passed text c.from_residual.result c.in_err-format.field-0.0 c.from_residual.ensures.1
    (subst (λ fault. IsDeltaCause fault text) (sym refused.0) (c.if-text-gt-MAX_LEN.false, delta_has_front text refused.1))

pub returns-in_err-span-clause-cause : goal.returns-in_err-span-clause-cause
returns-in_err-span-clause-cause c =
    let text = c.args.text.now in
    delta_cause_passed text c.from_residual-in_err-span.result c.in_err-span.field-0.0 c.from_residual-in_err-span.ensures.1
    (delta_refused_line c.in_ok-format.format text c.in_ok-format.line.now c.in_ok-format.ensures.found c.if-text-gt-MAX_LEN.false c.in_err-span.field-0.0 c.in_err-span.ensures.refused)

pub returns-in_err-state-clause-cause : goal.returns-in_err-state-clause-cause
returns-in_err-state-clause-cause c =
    let text = c.args.text.now in
    delta_cause_passed text c.from_residual-in_err-state.result c.in_err-state.field-0.0 c.from_residual-in_err-state.ensures.1
    (delta_refused c.in_ok-format.format text c.in_ok-format.line.now c.in_ok-format.ensures.found _ c.in_ok-span.entries.now c.in_ok-span.ensures.found c.if-text-gt-MAX_LEN.false
    c.in_err-state.field-0.0 c.in_err-state.ensures.refused)

pub returns-clause-found : goal.returns-clause-found
returns-clause-found c =
    delta_found c.in_ok-format.format c.args.text.now c.in_ok-format.line.now c.in_ok-format.ensures.found _ c.in_ok-span.entries.now c.in_ok-span.ensures.found
    c.in_ok-state.state c.in_ok-state.ensures.found
