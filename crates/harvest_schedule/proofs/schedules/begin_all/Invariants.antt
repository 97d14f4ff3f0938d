use Rattle.std.proofs.Common.{◌≡◌, ◌++◌, map, take, drop}
use Rattle.harvest_schedule.specs.Lanes.{after_begin}
use Rattle.harvest_schedule.proofs.schedules.begin_all.Given as goal

abbrev pub invariant-loop-lane : goal.invariant-loop-lane
invariant-loop-lane l =
    l.lanes ≡ map (after_begin l.originals) (take l.lane-index l.fn.lanes) ++ drop l.lane-index l.fn.lanes
