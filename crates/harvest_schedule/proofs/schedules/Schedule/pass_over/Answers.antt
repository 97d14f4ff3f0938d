use Rattle.std.proofs.Common.{arith}
use Rattle.harvest_schedule.specs.Steps.{Passed}
use Rattle.harvest_schedule.proofs.Calls.{told}
use Rattle.harvest_schedule.proofs.schedules.Schedule.pass_over.Goals as goal

pub returns-then-is_passed_over-clause-lanes : goal.returns-then-is_passed_over-clause-lanes
returns-then-is_passed_over-clause-lanes c =
    told c.try_pass_over-is_passed_over.result c.args.self.now.limits c.args.turn.archive (Passed c.args.turn.original)
    c.args.self.now.lanes.items c.index_mut.result.now c.try_pass_over-is_passed_over.new.self
    (omega arith) c.index_mut.ensures.value c.try_pass_over-is_passed_over.ensures.can c.try_pass_over-is_passed_over.ensures.after

pub returns-else-is_passed_over-clause-lanes : goal.returns-else-is_passed_over-clause-lanes
returns-else-is_passed_over-clause-lanes c =
    told c.try_pass_over-is_passed_over.result c.args.self.now.limits c.args.turn.archive (Passed c.args.turn.original)
    c.args.self.now.lanes.items c.index_mut.result.now c.try_pass_over-is_passed_over.new.self
    (omega arith) c.index_mut.ensures.value c.try_pass_over-is_passed_over.ensures.can c.try_pass_over-is_passed_over.ensures.after
