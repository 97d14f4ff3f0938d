use Rattle.std.proofs.Common.{◌≡◌, map, take}
use Rattle.harvest_schedule.specs.Lanes.{new_standing}
use Rattle.harvest_schedule.proofs.schedules.Schedule.new.Given as goal

abbrev pub invariant-loop-pace : goal.invariant-loop-pace
invariant-loop-pace l = l.lanes.items ≡ map (new_standing l.originals) (take l.pace-index l.paces)
