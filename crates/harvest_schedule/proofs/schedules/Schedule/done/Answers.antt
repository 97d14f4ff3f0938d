use Rattle.std.proofs.Common.{arith}
use Rattle.harvest_schedule.specs.Steps.{Ended}
use Rattle.harvest_schedule.proofs.Calls.{told}
use Rattle.harvest_schedule.proofs.schedules.Schedule.done.Goals as goal

pub returns-clause-lanes : goal.returns-clause-lanes
returns-clause-lanes c =
    told c.try_end.result c.args.self.now.limits c.args.turn.archive (Ended c.args.now c.args.turn.original c.args.verdict) c.args.self.now.lanes.items c.index_mut.result.now c.try_end.new.self
    (omega arith) c.index_mut.ensures.value c.try_end.ensures.can c.try_end.ensures.after
