use Rattle.std.proofs.Common.{sym, ◌∙◌, arith, ap}
use Rattle.replica_world.specs.Fields.{after_empty_lines}
use Rattle.replica_world.proofs.Lines.{after_empty_lines-empty, after_empty_lines-other}
use Rattle.replica_world.proofs.replaying.fields.after_empty_lines.Goals as goal

pub loop-rest-preserved : goal.loop-rest-preserved
loop-rest-preserved c =
    let empty = after_empty_lines-empty c.loop-rest.rest.now (sym c.loop-rest-test.ensures.value) in
    (ap after_empty_lines c.split_at.ensures.back ∙ sym empty ∙ c.loop-rest.invariant.0, omega arith)

pub returns-clause-text : goal.returns-clause-text
returns-clause-text c =
    sym (after_empty_lines-other c.loop-rest.rest.now (sym c.loop-rest-test.ensures.value)) ∙ c.loop-rest.invariant.0
