use Rattle.std.proofs.Common.{◌≡◌, take, length}
use Rattle.std.specs.Vec.{vec_len, vec_capacity}
use Rattle.replica_world.specs.Stands.{Runs}
use Rattle.replica_world.proofs.world.World.run.Given as goal

abbrev pub invariant-loop-event : goal.invariant-loop-event
invariant-loop-event l = record {
  runs : Runs l.fn.self (take l.event-index l.events) l.answers.items l.self;
  count : vec_len l.answers ≡ l.event-index;
  room : vec_capacity l.answers ≡ length l.events;
}
