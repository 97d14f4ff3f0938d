use Rattle.std.proofs.Common.{rules}
use Rattle.replica_world.proofs.Written.{write_more}
use Rattle.replica_world.proofs.replaying.devices.write_whole.Goals as goal

pub loop-rest-preserved : goal.loop-rest-preserved
loop-rest-preserved g c = record {
  written = write_more _ _ _ _ _ _ _ c.loop-rest.invariant.written c.in-Ok.ensures.bytes c.split_at.ensures.back;
  failures = search rules;
}
