use Rattle.replica_exchange.specs.Parts.{part, many}
use Rattle.replica_exchange.proofs.Sequences.{passed_on, refused_with, many_more, many_leaves}
use Rattle.replica_exchange.proofs.PartLemmas.{part_once}
use Rattle.replica_exchange.proofs.entries.read_parts.Goals as goal

pub returns-in_err-part-clause-refused : goal.returns-in_err-part-clause-refused
returns-in_err-part-clause-refused c =
    let text = c.args.text.now in
    passed_on (many c.args.count part) text c.from_residual.result c.in_err-part.field-0.0 c.from_residual.ensures.1
    (refused_with part (many c.args.count part) text c.loop.rest.now
    (many_leaves part part_once c.args.count c.loop.counter text c.loop.rest.now c.loop.parts.items c.loop-test.true c.loop.invariant.lines) c.in_err-part.field-0.0
    c.in_err-part.ensures.refused)

pub loop-preserved : goal.loop-preserved
loop-preserved c = record {
  lines = rw c.in_ok-push.ensures.items (many_more part c.loop.counter c.args.text.now c.loop.rest.now _ c.loop.parts.items _ c.loop.invariant.lines c.in_ok-part.ensures.found);
}
