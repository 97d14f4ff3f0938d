use Rattle.std.proofs.Common.{◌≡◌, ◌≤◌, length}
use Rattle.replica_world.specs.Fields.{after_empty_lines}
use Rattle.replica_world.proofs.replaying.fields.after_empty_lines.Given as goal

abbrev pub invariant-loop-rest : goal.invariant-loop-rest
invariant-loop-rest l = (after_empty_lines l.rest ≡ after_empty_lines l.text) × (length l.rest ≤ length l.text)

abbrev pub decreases-loop-rest : goal.decreases-loop-rest
decreases-loop-rest l = length l.rest
