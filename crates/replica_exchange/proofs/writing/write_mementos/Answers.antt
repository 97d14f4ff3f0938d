use Rattle.memento_time.specs.Mementos.{IsMemento}
use Rattle.replica_exchange.specs.StateText.{memento_line}
use Rattle.replica_exchange.proofs.WritingLemmas.{more_of}
use Rattle.replica_exchange.proofs.writing.write_mementos.Goals as goal

pub loop-memento-preserved : goal.loop-memento-preserved
loop-memento-preserved c =
    let line = c.in_ok-write_memento.ensures in
    more_of IsMemento memento_line c.args.out.now.items _ _ c.args.mementos.now c.loop-memento.memento-index _ c.loop-memento-test.true c.memento-item.is c.loop-memento.invariant
    line.written line.fits
