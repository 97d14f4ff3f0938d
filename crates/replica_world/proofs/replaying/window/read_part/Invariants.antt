use Rattle.std.proofs.Common.{◌≡◌}
use Rattle.std.specs.Io.KnownBytes.{Keeps}
use Rattle.replica_world.specs.Fields.{after_empty_lines}
use Rattle.replica_world.specs.Reading.{ReadsOn, told_of, turns}
use Rattle.replica_world.proofs.replaying.window.read_part.Given as goal

abbrev pub invariant-pieces : goal.invariant-pieces
invariant-pieces g l = record {
  on : ReadsOn l.fn.window (told_of g.R.Read.remaining l.fn.reader) l.window (told_of g.R.Read.remaining l.reader);
  front : after_empty_lines l.window.bytes ≡ l.window.bytes;
  kept : Keeps (g.W.Write.contents l.fn.writer.device) (g.W.Write.contents l.writer.device);
  failures : l.writer.failures ≡ l.fn.writer.failures;
}

abbrev pub decreases-pieces : goal.decreases-pieces
decreases-pieces g l = turns l.window
