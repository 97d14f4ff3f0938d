use Rattle.replica_exchange.proofs.FormatLemmas.{front_passed, format_refused}
use Rattle.replica_exchange.proofs.format.read_format.Goals as goal

pub returns-in_err-rest-clause-refused : goal.returns-in_err-rest-clause-refused
returns-in_err-rest-clause-refused c =
    let refused = c.in_err-rest.ensures.refused in
    front_passed c.args.text.now c.args.word.now _ c.in_err-rest.field-0.0 c.from_residual-in_err-rest.ensures.1 refused.0
    (format_refused c.args.text.now c.args.word.now c.in_ok-number.number.now c.in_ok-number.ensures.found refused.1 c.in_default.ensures.refused.1)
