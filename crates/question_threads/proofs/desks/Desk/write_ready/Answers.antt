use Rattle.question_threads.proofs.QueuedLemmas.{on_err, breaks_later, writes_more, writes_nothing}
use Rattle.question_threads.proofs.desks.Desk.write_ready.Goals as goal

pub loop-init : goal.loop-init
loop-init g c = writes_nothing g.P.WalkRules.jobs g.P.WalkRules.answers g.P.WalkRules.faults c.args.self.now.queue (g.W.Write.contents c.args.out.now)

pub returns-in_err-write_first-clause-err : goal.returns-in_err-write_first-clause-err
returns-in_err-write_first-clause-err g c =
    let rules = g.P.WalkRules in
    on_err c.from_residual.result _ (breaks_later rules.jobs rules.answers rules.faults c.args.self.now.queue c.loop.self.queue _ _ _ c.loop.invariant
    c.in_err-write_first.ensures.err)

pub returns-then-not-branch-clause-ok : goal.returns-then-not-branch-clause-ok
returns-then-not-branch-clause-ok g c =
    let rules = g.P.WalkRules in
    writes_more rules.jobs rules.answers rules.faults c.args.self.now.queue c.loop.self.queue c.write_first.new.self.queue _ _ _ c.loop.invariant
    c.in_ok-write_first.ensures.ok

pub loop-preserved : goal.loop-preserved
loop-preserved g c =
    let rules = g.P.WalkRules in
    writes_more rules.jobs rules.answers rules.faults c.args.self.now.queue c.loop.self.queue c.write_first.new.self.queue _ _ _ c.loop.invariant
    c.in_ok-write_first.ensures.ok
