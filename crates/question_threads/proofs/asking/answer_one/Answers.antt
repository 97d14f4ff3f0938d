use Rattle.std.proofs.Common.{sym, refl, ◌∙◌}
use Rattle.std.specs.Arc.{arc_value}
use Rattle.std.proofs.KnownBytes.{Appends-nil}
use Rattle.question_threads.proofs.QueuedLemmas.{on_err, one_unbegun, turn_broken, turn_answered, turn_waits}
use Rattle.question_threads.proofs.asking.answer_one.Goals as goal

pub returns-in_err-pool-clause-err : goal.returns-in_err-pool-clause-err
returns-in_err-pool-clause-err g c =
    let rules = g.P.WalkRules in
    on_err c.from_residual.result _ (one_unbegun rules.jobs rules.answers rules.faults c.args.want (arc_value c.args.sources).base c.args.original _ _ (Appends-nil _))

pub returns-in_err-desk-clause-err : goal.returns-in_err-desk-clause-err
returns-in_err-desk-clause-err g c =
    let rules = g.P.WalkRules in
    on_err c.from_residual-in_err-desk.result _ (one_unbegun rules.jobs rules.answers rules.faults c.args.want (arc_value c.args.sources).base c.args.original _ _ (Appends-nil _))

pub returns-in_err-add-clause-err : goal.returns-in_err-add-clause-err
returns-in_err-add-clause-err g c =
    let rules = g.P.WalkRules in
    on_err c.from_residual-in_err-add.result _ (one_unbegun rules.jobs rules.answers rules.faults c.args.want (arc_value c.args.sources).base c.args.original _ _ (Appends-nil _))

pub returns-in_err-hand_out-clause-err : goal.returns-in_err-hand_out-clause-err
returns-in_err-hand_out-clause-err g c =
    let rules = g.P.WalkRules in
    on_err c.from_residual-in_err-hand_out.result _ (one_unbegun rules.jobs rules.answers rules.faults c.args.want (arc_value c.args.sources).base c.args.original _ _ c.loop.invariant.3)

pub returns-in_err-write_ready-clause-err : goal.returns-in_err-write_ready-clause-err
returns-in_err-write_ready-clause-err g c =
    let rules = g.P.WalkRules in
    on_err c.from_residual-in_err-write_ready.result _ (turn_broken rules.jobs rules.answers rules.faults c.hand_out.new.self.queue c.loop.desk.queue c.args.want
    (arc_value c.args.sources).base c.args.original _ _ _ c.hand_out.ensures c.loop.invariant.0 c.loop.invariant.1 c.loop.invariant.2 c.loop.invariant.3 c.in_err-write_ready.ensures.err)

pub returns-then-is_done-clause-ok : goal.returns-then-is_done-clause-ok
returns-then-is_done-clause-ok g c =
    let rules = g.P.WalkRules in
    turn_answered rules.jobs rules.answers rules.faults c.hand_out.new.self.queue c.loop.desk.queue c.write_ready.new.self.queue c.args.want (arc_value c.args.sources).base
    c.args.original _ _ _ c.hand_out.ensures c.loop.invariant.0 c.loop.invariant.1 c.loop.invariant.2 c.loop.invariant.3 c.in_ok-write_ready.ensures.ok
    (sym c.is_done.ensures ∙ c.if-is_done.true)

pub loop-preserved : goal.loop-preserved
loop-preserved g c =
    let rules = g.P.WalkRules in
    turn_waits rules.jobs rules.answers rules.faults c.hand_out.new.self.queue c.loop.desk.queue c.write_ready.new.self.queue c.wait.new.self.queue c.args.want
    (arc_value c.args.sources).base c.args.original _ _ _ c.hand_out.ensures c.loop.invariant.0 c.loop.invariant.1 c.loop.invariant.2 c.loop.invariant.3
    c.in_ok-write_ready.ensures.ok (sym c.is_done.ensures ∙ c.if-is_done.false) c.wait.ensures

pub returns-in_err-wait-clause-err : goal.returns-in_err-wait-clause-err
returns-in_err-wait-clause-err g c =
    let rules = g.P.WalkRules in
    on_err c.from_residual-in_err-wait.result _ (one_unbegun rules.jobs rules.answers rules.faults c.args.want (arc_value c.args.sources).base c.args.original _ _
    (turn_waits rules.jobs rules.answers rules.faults c.hand_out.new.self.queue c.loop.desk.queue c.write_ready.new.self.queue c.write_ready.new.self.queue c.args.want
    (arc_value c.args.sources).base c.args.original _ _ _ c.hand_out.ensures c.loop.invariant.0 c.loop.invariant.1 c.loop.invariant.2 c.loop.invariant.3
    c.in_ok-write_ready.ensures.ok (sym c.is_done.ensures ∙ c.if-is_done.false) refl).3)
