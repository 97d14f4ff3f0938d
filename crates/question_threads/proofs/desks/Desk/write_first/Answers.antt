use Rattle.std.proofs.Common.{subst}
use Rattle.std.specs.Io.KnownBytes.{Appends}
use Rattle.question_threads.specs.Queued.{AppendsBeginning}
use Rattle.question_threads.proofs.QueuedLemmas.{on_err, breaks_next, nothing_begun, writes_nothing, writes_next}
use Rattle.question_threads.proofs.desks.Desk.write_first.Goals as goal

pub returns-in_err-text-clause-err : goal.returns-in_err-text-clause-err
returns-in_err-text-clause-err g c =
    let rules = g.P.WalkRules in
    let next = c.in_err-text.ensures.refused in
    on_err c.from_residual.result _ (breaks_next rules.jobs rules.answers rules.faults c.args.self.now.queue next.0 _ _ next.1 (nothing_begun _ next.0))

pub returns-in_default-clause-ok : goal.returns-in_default-clause-ok
returns-in_default-clause-ok g c = writes_nothing g.P.WalkRules.jobs g.P.WalkRules.answers g.P.WalkRules.faults c.args.self.now.queue _

pub returns-in_err-write_text-clause-err : goal.returns-in_err-write_text-clause-err
returns-in_err-write_text-clause-err g c =
    let rules = g.P.WalkRules in
    on_err c.from_residual-in_err-write_text.result _ (breaks_next rules.jobs rules.answers rules.faults c.args.self.now.queue c.in-Some.text.items _ _
    (rw c.in-Some.is at c.in_ok-text.ensures.next)
    (subst (AppendsBeginning (g.W.Write.contents c.args.out.now) (g.W.Write.contents c.write_text.new.out)) c.deref.ensures.value c.in_err-write_text.ensures.err))

pub returns-clause-ok : goal.returns-clause-ok
returns-clause-ok g c =
    let rules = g.P.WalkRules in
    writes_next rules.jobs rules.answers rules.faults c.args.self.now.queue c.leave_first.new.self.queue c.in-Some.text.items _ _
    (rw c.in-Some.is at c.in_ok-text.ensures.next)
    (subst (Appends (g.W.Write.contents c.args.out.now) (g.W.Write.contents c.write_text.new.out)) c.deref.ensures.value c.in_ok-write_text.ensures.ok) c.leave_first.ensures
