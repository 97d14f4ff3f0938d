use Rattle.std.proofs.Common.{map}
use Rattle.harvest_lattice.specs.Rows.{lent_entry}
use Rattle.replica_exchange.specs.StateText.{entry_text, IsEntry}
use Rattle.replica_exchange.proofs.WritingLemmas.{HasWritten}
use Rattle.replica_exchange.proofs.writing.write_entries.Given as goal

abbrev pub invariant-loop-archive : goal.invariant-loop-archive
invariant-loop-archive l = HasWritten IsEntry entry_text l.fn.out.items l.out.items (map lent_entry l.yielded)
