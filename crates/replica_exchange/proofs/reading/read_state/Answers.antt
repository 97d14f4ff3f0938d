use Rattle.std.proofs.Common.{sym, subst}
use Rattle.replica_exchange.specs.Faults.{IsCause}
use Rattle.replica_exchange.proofs.StateLemmas.{cause_passed, state_has_front, state_refused, state_found}
use Rattle.replica_exchange.proofs.reading.read_state.Goals as goal

pub returns-in_err-format-clause-cause : goal.returns-in_err-format-clause-cause
returns-in_err-format-clause-cause c =
    let text = c.args.text.now in
    let refused = c.in_err-format.ensures.refused in
    cause_passed text c.from_residual.result c.in_err-format.field-0.0 c.from_residual.ensures.1
    (subst (λ fault. IsCause fault text) (sym refused.0) (c.if-text-gt-MAX_LEN.false, state_has_front text refused.1))

pub returns-in_err-state-clause-cause : goal.returns-in_err-state-clause-cause
returns-in_err-state-clause-cause c =
    let text = c.args.text.now in
    cause_passed text c.from_residual-in_err-state.result c.in_err-state.field-0.0 c.from_residual-in_err-state.ensures.1
    (state_refused c.in_ok-format.format text c.in_ok-format.entries.now c.in_ok-format.ensures.found c.if-text-gt-MAX_LEN.false c.in_err-state.field-0.0 c.in_err-state.ensures.refused)

pub returns-clause-found : goal.returns-clause-found
returns-clause-found c = state_found c.in_ok-format.format c.args.text.now c.in_ok-format.entries.now c.in_ok-format.ensures.found c.in_ok-state.state c.in_ok-state.ensures.found
