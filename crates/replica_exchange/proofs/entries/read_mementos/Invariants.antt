use Rattle.replica_exchange.specs.Spelling.{Begins}
use Rattle.replica_exchange.specs.Parts.{many, memento}
use Rattle.replica_exchange.proofs.entries.read_mementos.Given as goal

abbrev pub invariant-loop : goal.invariant-loop
invariant-loop l = record {
  lines : Begins (many l.counter memento) l.text l.mementos l.rest;
}
