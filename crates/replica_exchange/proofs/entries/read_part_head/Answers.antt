use Rattle.replica_exchange.specs.Spelling.{number}
use Rattle.replica_exchange.specs.Parts.{part_head}
use Rattle.replica_exchange.proofs.Sequences.{passed_on, refused_with, malformed}
use Rattle.replica_exchange.proofs.PartLemmas.{part_has_front, part_leaves_revision, part_leaves_count, part_head_found}
use Rattle.replica_exchange.proofs.entries.read_part_head.Goals as goal

pub returns-in_err-rest-clause-refused : goal.returns-in_err-rest-clause-refused
returns-in_err-rest-clause-refused c =
    let text = c.args.text.now in
    let refused = c.in_err-rest.ensures.refused in
    passed_on part_head text c.from_residual.result c.in_err-rest.field-0.0 c.from_residual.ensures.1 (malformed part_head text c.in_err-rest.field-0.0 refused.0 (part_has_front text refused.1))

pub returns-in_err-revision-clause-refused : goal.returns-in_err-revision-clause-refused
returns-in_err-revision-clause-refused c =
    let text = c.args.text.now in
    passed_on part_head text c.from_residual-in_err-revision.result c.in_err-revision.field-0.0 c.from_residual-in_err-revision.ensures.1
    (refused_with (number 32) part_head text _ (part_leaves_revision text _ c.in_ok-rest.ensures.found) c.in_err-revision.field-0.0 c.in_err-revision.ensures.refused)

pub returns-in_err-count-clause-refused : goal.returns-in_err-count-clause-refused
returns-in_err-count-clause-refused c =
    let text = c.args.text.now in
    passed_on part_head text c.from_residual-in_err-count.result c.in_err-count.field-0.0 c.from_residual-in_err-count.ensures.1
    (refused_with (number 10) part_head text _ (part_leaves_count text _ c.in_ok-rest.ensures.found _ _ c.in_ok-revision.ensures.found) c.in_err-count.field-0.0 c.in_err-count.ensures.refused)

pub returns-clause-found : goal.returns-clause-found
returns-clause-found c = part_head_found c.args.text.now _ c.in_ok-rest.ensures.found _ _ c.in_ok-revision.ensures.found _ _ c.in_ok-count.ensures.found
