use Rattle.std.proofs.Common.{take}
use Rattle.memento_time.specs.Mementos.{IsMemento}
use Rattle.replica_exchange.specs.StateText.{memento_line}
use Rattle.replica_exchange.proofs.WritingLemmas.{HasWritten}
use Rattle.replica_exchange.proofs.writing.write_mementos.Given as goal

abbrev pub invariant-loop-memento : goal.invariant-loop-memento
invariant-loop-memento l = HasWritten IsMemento memento_line l.fn.out.items l.out.items (take l.memento-index l.mementos)
