use Rattle.std.proofs.Common.{◌≡◌, ℕ, List, ◌++◌, Some}
use Rattle.replica_events.specs.World.{World}
use Rattle.replica_world.specs.Stands.{Stands}
use Rattle.replica_world.specs.Reading.{Told, IsReadTo, told_of, room}
use Rattle.replica_world.proofs.Streams.{ProgressLeft}
use Rattle.replica_world.proofs.replaying.run.replay_commands.Given as goal

abbrev pub invariant-commands : goal.invariant-commands
invariant-commands g l = record {
  reads : (begun : Told) → IsReadTo begun l.fn.window (told_of g.R.Read.remaining l.fn.reader) → IsReadTo begun l.window (told_of g.R.Read.remaining l.reader);
  progress : (begun : Told) (script rest : List ℕ) → begun.bytes ≡ Some script → g.R.Read.remaining l.fn.reader.device ≡ Some rest
      → IsReadTo begun l.fn.window (told_of g.R.Read.remaining l.fn.reader) → (w : World) → Stands l.fn.world w
      → ProgressLeft l.fn.world.base w (l.fn.window.bytes ++ rest) l.world l.window.bytes (g.R.Read.remaining l.reader.device) (g.W.Write.contents l.fn.writer.device)
      (g.W.Write.contents l.writer.device);
  failures : l.writer.failures ≡ l.fn.writer.failures;
}

abbrev pub decreases-commands : goal.decreases-commands
decreases-commands g l = room l.window
