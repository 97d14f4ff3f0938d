use Rattle.replica_exchange.specs.Parts.{memento, many}
use Rattle.replica_exchange.proofs.Sequences.{passed_on, refused_with, many_more, many_leaves}
use Rattle.replica_exchange.proofs.PartLemmas.{memento_once}
use Rattle.replica_exchange.proofs.entries.read_mementos.Goals as goal

pub returns-in_err-rest-clause-refused : goal.returns-in_err-rest-clause-refused
returns-in_err-rest-clause-refused c =
    let text = c.args.text.now in
    passed_on (many c.args.count memento) text c.from_residual.result c.in_err-rest.field-0.0 c.from_residual.ensures.1
    (refused_with memento (many c.args.count memento) text c.loop.rest.now
    (many_leaves memento memento_once c.args.count c.loop.counter text c.loop.rest.now c.loop.mementos c.loop-test.true c.loop.invariant.lines) c.in_err-rest.field-0.0
    c.in_err-rest.ensures.refused)

pub loop-preserved : goal.loop-preserved
loop-preserved c =
    let one = c.in_ok-rest.ensures.found in
    record { lines = rw one.added (many_more memento c.loop.counter c.args.text.now c.loop.rest.now _ c.loop.mementos one.value c.loop.invariant.lines one.begins) }
