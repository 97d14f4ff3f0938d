use Rattle.std.proofs.Common.{◌≡◌, ◌-◌}
use Rattle.replica_world.specs.Fields.{lines_of}
use Rattle.replica_world.proofs.Lines.{lines_after}
use Rattle.replica_world.proofs.replaying.fields.lines.Given as goal

abbrev pub invariant-loop : goal.invariant-loop
invariant-loop l = lines_after l.lines.items (lines_of (l.count - l.counter) l.rest) ≡ lines_of l.count l.text
