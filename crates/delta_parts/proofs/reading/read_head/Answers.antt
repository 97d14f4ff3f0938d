use Rattle.replica_exchange.proofs.Sequences.{passed_on, refused_with, malformed}
use Rattle.delta_parts.specs.PartText.{head}
use Rattle.delta_parts.proofs.TextLemmas.{until_line, head_has_front, head_leaves_until}
use Rattle.delta_parts.proofs.reading.read_head.Goals as goal

pub returns-in_err-lines-clause-refused : goal.returns-in_err-lines-clause-refused
returns-in_err-lines-clause-refused c =
    let text = c.args.text.now in
    let refused = c.in_err-lines.ensures.refused in
    passed_on head text c.from_residual.result c.in_err-lines.field-0.0 c.from_residual.ensures.1
    (malformed head text c.in_err-lines.field-0.0 refused.0 (head_has_front text refused.1))

pub returns-in_err-until-clause-refused : goal.returns-in_err-until-clause-refused
returns-in_err-until-clause-refused c =
    let text = c.args.text.now in
    passed_on head text c.from_residual-in_err-until.result c.in_err-until.field-0.0 c.from_residual-in_err-until.ensures.1
    (refused_with until_line head text _ (head_leaves_until text c.in_ok-lines.lines.now c.in_ok-lines.ensures.found c.in_ok-behind.behind c.in_ok-behind.line.now c.in_ok-behind.ensures.found)
    c.in_err-until.field-0.0 c.in_err-until.ensures.refused)
