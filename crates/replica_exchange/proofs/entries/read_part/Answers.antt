use Rattle.std.proofs.Common.{sym, subst}
use Rattle.replica_exchange.specs.Spelling.{Begins}
use Rattle.replica_exchange.specs.Parts.{part_head, part, set_of}
use Rattle.replica_exchange.proofs.Sequences.{passed_on, refused_with}
use Rattle.replica_exchange.proofs.PartLemmas.{part_leaves_head, part_leaves_set, part_found}
use Rattle.replica_exchange.proofs.entries.read_part.Goals as goal

pub returns-in_err-head-clause-refused : goal.returns-in_err-head-clause-refused
returns-in_err-head-clause-refused c =
    let text = c.args.text.now in
    passed_on part text c.from_residual.result c.in_err-head.field-0.0 c.from_residual.ensures.1
    (refused_with part_head part text text (part_leaves_head text) c.in_err-head.field-0.0 c.in_err-head.ensures.refused)

pub returns-in_err-set-clause-refused : goal.returns-in_err-set-clause-refused
returns-in_err-set-clause-refused c =
    let text = c.args.text.now in
    passed_on part text c.from_residual-in_err-set.result c.in_err-set.field-0.0 c.from_residual-in_err-set.ensures.1
    (refused_with (set_of c.in_ok-head.head.count) part text _ (part_leaves_set text _ _ c.in_ok-head.ensures.found) c.in_err-set.field-0.0 c.in_err-set.ensures.refused)

pub returns-clause-found : goal.returns-clause-found
returns-clause-found c =
    subst (λ p. Begins part c.args.text.now p c.in_ok-set.rest.now) (sym c.in_ok-part.ensures)
    (part_found c.args.text.now _ _ c.in_ok-head.ensures.found c.in_ok-set.set c.in_ok-set.rest.now c.in_ok-set.ensures.found)
