use Rattle.std.proofs.Common.{map}
use Rattle.harvest_lattice.specs.Rows.{row_entry}
use Rattle.replica_exchange.specs.Spelling.{Begins}
use Rattle.replica_exchange.specs.Parts.{many, entry}
use Rattle.replica_exchange.proofs.entries.read_entries.Given as goal

abbrev pub invariant-loop : goal.invariant-loop
invariant-loop l = record {
  lines : Begins (many l.counter (entry l.format)) l.text (map row_entry l.rows.items) l.rest;
}
