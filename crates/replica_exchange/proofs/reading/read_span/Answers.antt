use Rattle.std.proofs.Common.{arith}
use Rattle.replica_exchange.specs.Spelling.{number}
use Rattle.replica_exchange.specs.Parts.{span}
use Rattle.replica_exchange.proofs.Sequences.{passed_on, refused_with, malformed}
use Rattle.replica_exchange.proofs.DeltaLemmas.{span_has_front, span_leaves_incarnation, span_leaves_start, span_leaves_end, span_backwards}
use Rattle.replica_exchange.proofs.reading.read_span.Goals as goal

pub returns-in_err-rest-clause-refused : goal.returns-in_err-rest-clause-refused
returns-in_err-rest-clause-refused c =
    let text = c.args.text.now in
    let refused = c.in_err-rest.ensures.refused in
    passed_on span text c.from_residual.result c.in_err-rest.field-0.0 c.from_residual.ensures.1 (malformed span text c.in_err-rest.field-0.0 refused.0 (span_has_front text refused.1))

pub returns-in_err-incarnation-clause-refused : goal.returns-in_err-incarnation-clause-refused
returns-in_err-incarnation-clause-refused c =
    let text = c.args.text.now in
    passed_on span text c.from_residual-in_err-incarnation.result c.in_err-incarnation.field-0.0 c.from_residual-in_err-incarnation.ensures.1
    (refused_with (number 32) span text _ (span_leaves_incarnation text _ c.in_ok-rest.ensures.found) c.in_err-incarnation.field-0.0 c.in_err-incarnation.ensures.refused)

pub returns-in_err-start-clause-refused : goal.returns-in_err-start-clause-refused
returns-in_err-start-clause-refused c =
    let text = c.args.text.now in
    passed_on span text c.from_residual-in_err-start.result c.in_err-start.field-0.0 c.from_residual-in_err-start.ensures.1
    (refused_with (number 32) span text _ (span_leaves_start text _ c.in_ok-rest.ensures.found _ _ c.in_ok-incarnation.ensures.found) c.in_err-start.field-0.0 c.in_err-start.ensures.refused)

pub returns-in_err-end-clause-refused : goal.returns-in_err-end-clause-refused
returns-in_err-end-clause-refused c =
    let text = c.args.text.now in
    passed_on span text c.from_residual-in_err-end.result c.in_err-end.field-0.0 c.from_residual-in_err-end.ensures.1
    (refused_with (number 10) span text _ (span_leaves_end text _ c.in_ok-rest.ensures.found _ _ c.in_ok-incarnation.ensures.found _ _ c.in_ok-start.ensures.found)
    c.in_err-end.field-0.0 c.in_err-end.ensures.refused)

pub returns-then-start-end-clause-refused : goal.returns-then-start-end-clause-refused
returns-then-start-end-clause-refused c =
    let after = c.if-start-end.true in
    span_backwards c.args.text.now _ c.in_ok-rest.ensures.found _ _ c.in_ok-incarnation.ensures.found _ _ c.in_ok-start.ensures.found _ _ c.in_ok-end.ensures.found
    (λ order. omega (arith, after, order))
