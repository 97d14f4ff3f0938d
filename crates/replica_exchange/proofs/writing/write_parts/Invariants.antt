use Rattle.std.proofs.Common.{take}
use Rattle.std.specs.FinMap as map
use Rattle.replica_exchange.specs.StateText.{part_text, IsPart}
use Rattle.replica_exchange.proofs.WritingLemmas.{HasWritten}
use Rattle.replica_exchange.proofs.writing.write_parts.Given as goal

abbrev pub invariant-loop-k : goal.invariant-loop-k
invariant-loop-k l = HasWritten IsPart part_text l.fn.out.items l.out.items (take l.k (map.entries l.entry.revisions))
