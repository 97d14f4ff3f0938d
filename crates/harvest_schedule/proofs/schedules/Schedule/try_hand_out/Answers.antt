use Rattle.std.proofs.Common.{arith}
use Rattle.harvest_schedule.specs.Steps.{Handed}
use Rattle.harvest_schedule.proofs.Calls.{told}
use Rattle.harvest_schedule.proofs.schedules.Schedule.try_hand_out.Goals as goal

pub returns-then-is_handed_out-clause-lanes : goal.returns-then-is_handed_out-clause-lanes
returns-then-is_handed_out-clause-lanes c =
    told c.try_hand_out-is_handed_out.result c.args.self.now.limits c.args.turn.archive (Handed c.args.now c.args.turn.original)
    c.args.self.now.lanes.items c.index_mut.result.now c.try_hand_out-is_handed_out.new.self
    (omega arith) c.index_mut.ensures.value c.try_hand_out-is_handed_out.ensures.can c.try_hand_out-is_handed_out.ensures.after

pub returns-else-is_handed_out-clause-lanes : goal.returns-else-is_handed_out-clause-lanes
returns-else-is_handed_out-clause-lanes c =
    told c.try_hand_out-is_handed_out.result c.args.self.now.limits c.args.turn.archive (Handed c.args.now c.args.turn.original)
    c.args.self.now.lanes.items c.index_mut.result.now c.try_hand_out-is_handed_out.new.self
    (omega arith) c.index_mut.ensures.value c.try_hand_out-is_handed_out.ensures.can c.try_hand_out-is_handed_out.ensures.after
