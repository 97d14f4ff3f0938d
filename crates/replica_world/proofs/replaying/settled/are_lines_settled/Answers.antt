use Rattle.std.proofs.Common.{◌-◌, ◌+◌, rules, sym}
use Rattle.replica_world.proofs.Settled.{lines_counted, lines_done, lines_settled_on, lines_settled_none}
use Rattle.replica_world.proofs.replaying.settled.are_lines_settled.Goals as goal

pub returns-in_default : goal.returns-in_default
returns-in_default c = λ _.
    c.loop.invariant
    (lines_counted c.args.count c.loop.counter c.loop.rest.now c.loop-test.true
    (lines_settled_none (c.args.count - (c.loop.counter + 1)) c.loop.rest.now (c.is_line_settled.ensures.line (search rules)) (sym c.in_default.ensures)))

pub loop-preserved : goal.loop-preserved
loop-preserved c = λ later.
    c.loop.invariant
    (lines_counted c.args.count c.loop.counter c.loop.rest.now c.loop-test.true
    (lines_settled_on (c.args.count - (c.loop.counter + 1)) c.loop.rest.now _ _ (c.is_line_settled.ensures.line (search rules)) (sym c.in-Some.ensures) later))

pub returns : goal.returns
returns c = λ _. c.loop.invariant (lines_done c.args.count c.loop.counter c.loop.rest.now c.loop-test.false)
