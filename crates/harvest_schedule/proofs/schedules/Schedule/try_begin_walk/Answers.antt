use Rattle.std.proofs.Common.{arith}
use Rattle.harvest_schedule.specs.Steps.{WalkBegun}
use Rattle.harvest_schedule.proofs.Calls.{told}
use Rattle.harvest_schedule.proofs.schedules.Schedule.try_begin_walk.Goals as goal

pub returns-then-is_begun-clause-lanes : goal.returns-then-is_begun-clause-lanes
returns-then-is_begun-clause-lanes c _ =
    told c.try_begin_walk-is_begun.result c.args.self.now.limits c.args.archive (WalkBegun c.args.now)
    c.args.self.now.lanes.items c.index_mut.result.now c.try_begin_walk-is_begun.new.self
    (omega arith) c.index_mut.ensures.value c.try_begin_walk-is_begun.ensures.can c.try_begin_walk-is_begun.ensures.after

pub returns-else-is_begun-clause-lanes : goal.returns-else-is_begun-clause-lanes
returns-else-is_begun-clause-lanes c _ =
    told c.try_begin_walk-is_begun.result c.args.self.now.limits c.args.archive (WalkBegun c.args.now)
    c.args.self.now.lanes.items c.index_mut.result.now c.try_begin_walk-is_begun.new.self
    (omega arith) c.index_mut.ensures.value c.try_begin_walk-is_begun.ensures.can c.try_begin_walk-is_begun.ensures.after
