use Rattle.std.proofs.Common.{ap, ◌∙◌}
use Rattle.std.specs.Arc.{arc_value}
use Rattle.service_settings.specs.declared.sources.Sources.{Sources}
use Rattle.question_threads.specs.Queued.{Queued}
use Rattle.question_threads.proofs.QueuedLemmas.{on_err, none_written, none_begun, turn_begun, turn_written, turn_goes_on}
use Rattle.question_threads.proofs.asking.answer_list.Goals as goal

pub returns-in_err-pool-clause-err : goal.returns-in_err-pool-clause-err
returns-in_err-pool-clause-err g c =
    let rules = g.P.WalkRules in
    on_err c.from_residual.result _ (none_begun rules.jobs rules.answers rules.faults c.args.want (arc_value c.args.sources).base _ _ (none_written rules.jobs rules.answers
    rules.faults c.args.want (arc_value c.args.sources).base _))

pub returns-in_err-desk-clause-err : goal.returns-in_err-desk-clause-err
returns-in_err-desk-clause-err g c =
    let rules = g.P.WalkRules in
    on_err c.from_residual-in_err-desk.result _ (none_begun rules.jobs rules.answers rules.faults c.args.want (arc_value c.args.sources).base _ _ (none_written rules.jobs rules.answers
    rules.faults c.args.want (arc_value c.args.sources).base _))

pub returns-in_err-read_more-clause-err : goal.returns-in_err-read_more-clause-err
returns-in_err-read_more-clause-err g c =
    let rules = g.P.WalkRules in
    on_err c.from_residual-in_err-read_more.result _ (none_begun rules.jobs rules.answers rules.faults c.args.want (arc_value c.args.sources).base _ _ c.loop.invariant.2)

pub returns-in_err-take_waiting-clause-err : goal.returns-in_err-take_waiting-clause-err
returns-in_err-take_waiting-clause-err g c =
    let rules = g.P.WalkRules in
    on_err c.from_residual-in_err-take_waiting.result _ (none_begun rules.jobs rules.answers rules.faults c.args.want (arc_value c.args.sources).base _ _ c.loop.invariant.2)

pub returns-in_err-hand_out-clause-err : goal.returns-in_err-hand_out-clause-err
returns-in_err-hand_out-clause-err g c =
    let rules = g.P.WalkRules in
    on_err c.from_residual-in_err-hand_out.result _ (none_begun rules.jobs rules.answers rules.faults c.args.want (arc_value c.args.sources).base _ _ c.loop.invariant.2)

pub returns-in_err-write_ready-clause-err : goal.returns-in_err-write_ready-clause-err
returns-in_err-write_ready-clause-err g c =
    let rules = g.P.WalkRules in
    on_err c.from_residual-in_err-write_ready.result _ (turn_begun rules.jobs rules.answers rules.faults c.loop.asker.desk.queue c.read_more.new.self.desk.queue
    c.take_waiting.new.self.queue c.hand_out.new.self.queue
    c.args.want (arc_value c.args.sources).base _ _ _ c.loop.invariant.0 c.loop.invariant.1 c.loop.invariant.2 c.read_more.ensures c.take_waiting.ensures c.hand_out.ensures
    c.in_err-write_ready.ensures.err)

pub returns-in_err-wait-clause-err : goal.returns-in_err-wait-clause-err
returns-in_err-wait-clause-err g c =
    let rules = g.P.WalkRules in
    on_err c.from_residual-in_err-wait.result _ (none_begun rules.jobs rules.answers rules.faults c.args.want (arc_value c.args.sources).base _ _ (turn_written rules.jobs rules.answers
    rules.faults c.loop.asker.desk.queue c.read_more.new.self.desk.queue c.take_waiting.new.self.queue c.hand_out.new.self.queue
    c.write_ready.new.self.queue c.args.want (arc_value c.args.sources).base _ _ _ c.loop.invariant.0 c.loop.invariant.1 c.loop.invariant.2 c.read_more.ensures c.take_waiting.ensures
    c.hand_out.ensures
    c.in_ok-write_ready.ensures.ok))

pub loop-preserved : goal.loop-preserved
loop-preserved g c =
    let rules = g.P.WalkRules in
    turn_goes_on rules.jobs rules.answers rules.faults c.loop.asker.desk.queue c.read_more.new.self.desk.queue c.take_waiting.new.self.queue c.hand_out.new.self.queue
    c.write_ready.new.self.queue c.wait.new.self.desk.queue c.args.want (arc_value c.args.sources).base _ _ _ c.loop.invariant.0 c.loop.invariant.1 c.loop.invariant.2
    c.read_more.ensures c.take_waiting.ensures c.hand_out.ensures
    c.in_ok-write_ready.ensures.ok c.wait.ensures

pub returns-then-is_done-clause-ok : goal.returns-then-is_done-clause-ok
returns-then-is_done-clause-ok g c =
    let rules = g.P.WalkRules in
    turn_written rules.jobs rules.answers rules.faults c.loop.asker.desk.queue c.read_more.new.self.desk.queue c.take_waiting.new.self.queue c.hand_out.new.self.queue
    c.write_ready.new.self.queue c.args.want (arc_value c.args.sources).base _ _ _ c.loop.invariant.0 c.loop.invariant.1 c.loop.invariant.2 c.read_more.ensures c.take_waiting.ensures
    c.hand_out.ensures
    c.in_ok-write_ready.ensures.ok

pub loop-init : goal.loop-init
loop-init g c =
    let rules = g.P.WalkRules in (
      ap (λ (q : Queued). q.want) c.in_ok-desk.ensures,
      ap (λ (q : Queued). q.base) c.in_ok-desk.ensures ∙ ap (λ (x : Sources). x.base) (ap arc_value c.new-terms.ensures),
      none_written rules.jobs rules.answers rules.faults c.args.want (arc_value c.args.sources).base _,
    )
