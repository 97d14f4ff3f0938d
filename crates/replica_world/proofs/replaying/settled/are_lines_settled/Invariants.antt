use Rattle.std.proofs.Common.{◌-◌}
use Rattle.replica_world.specs.Fields.{lines_of}
use Rattle.replica_world.specs.Reading.{IsSettledBy}
use Rattle.replica_world.proofs.replaying.settled.are_lines_settled.Given as goal

abbrev pub invariant-loop : goal.invariant-loop
invariant-loop l = IsSettledBy (lines_of (l.count - l.counter)) l.rest → IsSettledBy (lines_of l.count) l.text
