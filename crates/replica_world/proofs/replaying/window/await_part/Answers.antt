use Rattle.std.proofs.KnownBytes.{Keeps-refl}
use Rattle.std.proofs.lemmas.Result.{on_ok_weaker}
use Rattle.replica_world.proofs.Ends.{none_behind}
use Rattle.replica_world.proofs.Windows.{skips_on, reads_on_on, reads_dropped}
use Rattle.replica_world.proofs.replaying.window.await_part.Goals as goal

pub returns-then-has_whole-clause-on : goal.returns-then-has_whole-clause-on
returns-then-has_whole-clause-on g c = skips_on _ _ _ c.skip_empty_lines.ensures.drops c.skip_empty_lines.ensures.bytes

pub returns-then-has_whole-clause-front : goal.returns-then-has_whole-clause-front
returns-then-has_whole-clause-front g c = none_behind _ _ c.skip_empty_lines.ensures.bytes

pub returns-then-has_whole-clause-kept : goal.returns-then-has_whole-clause-kept
returns-then-has_whole-clause-kept g c = Keeps-refl _

pub read_part-requires : goal.read_part-requires
read_part-requires g c = none_behind _ _ c.skip_empty_lines.ensures.bytes

pub returns-clause-reader : goal.returns-clause-reader
returns-clause-reader g c = λ begun read. c.read_part.ensures.reader begun (reads_dropped begun _ _ _ read c.skip_empty_lines.ensures.drops)

pub returns-clause-on : goal.returns-clause-on
returns-clause-on g c =
    on_ok_weaker c.read_part.result (λ on. reads_on_on _ _ _ _ _ _ (skips_on _ _ _ c.skip_empty_lines.ensures.drops c.skip_empty_lines.ensures.bytes) on) c.read_part.ensures.on
