use Rattle.std.proofs.Common.{◌≡◌, map, take}
use Rattle.round_standing.specs.Paces as spec
use Rattle.round_standing.proofs.paces.schedule_of.Given as goal

-- the paces of those that were gone over
abbrev pub invariant-loop-archive : goal.invariant-loop-archive
invariant-loop-archive l = l.paces.items ≡ map (spec.pace_of l.settings) (take l.archive-index l.archive-items)
