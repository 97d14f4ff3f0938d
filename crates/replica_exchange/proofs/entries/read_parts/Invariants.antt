use Rattle.replica_exchange.specs.Spelling.{Begins}
use Rattle.replica_exchange.specs.Parts.{many, part}
use Rattle.replica_exchange.proofs.entries.read_parts.Given as goal

abbrev pub invariant-loop : goal.invariant-loop
invariant-loop l = record {
  lines : Begins (many l.counter part) l.text l.parts.items l.rest;
}
