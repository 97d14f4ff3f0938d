use Rattle.std.proofs.Common.{◌≡◌, ◌≤◌, ◌+◌, length}
use Rattle.replica_world.specs.Reading.{ends_of_lines}
use Rattle.replica_world.proofs.replaying.window.ends_of_lines.Given as goal

abbrev pub invariant-parts : goal.invariant-parts
invariant-parts l = record {
  counted : l.count + ends_of_lines l.rest ≡ ends_of_lines l.text;
  within : l.count + length l.rest ≤ length l.text;
}

abbrev pub decreases-parts : goal.decreases-parts
decreases-parts l = length l.rest
