use Rattle.std.proofs.Common.{◌≡◌, take}
use Rattle.replica_world.specs.Reading.{ends_of_lines}
use Rattle.replica_world.proofs.replaying.window.ends_in_block.Given as goal

abbrev pub invariant-loop-byte : goal.invariant-loop-byte
invariant-loop-byte l = l.count ≡ ends_of_lines (take l.byte-index l.block)
