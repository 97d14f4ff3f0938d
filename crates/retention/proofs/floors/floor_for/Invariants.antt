use Rattle.std.proofs.Common.{◌<◌, ◌-◌}
use Rattle.retention.proofs.floors.floor_for.Given as goal

abbrev pub decreases-loop-floor : goal.decreases-loop-floor
decreases-loop-floor l = l.floor - l.below

abbrev pub invariant-loop-floor : goal.invariant-loop-floor
invariant-loop-floor l = l.below < l.floor
