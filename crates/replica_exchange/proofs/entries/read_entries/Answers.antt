use Rattle.std.proofs.Common.{◌≡◌, ◌++◌, ◌∷◌, [], map, ap, ◌∙◌}
use Rattle.std.proofs.lemmas.List.{map_push}
use Rattle.harvest_lattice.specs.Rows.{row_entry}
use Rattle.replica_exchange.specs.Parts.{entry, many}
use Rattle.replica_exchange.proofs.Sequences.{passed_on, refused_with, many_more, many_leaves}
use Rattle.replica_exchange.proofs.EntryLemmas.{entry_once}
use Rattle.replica_exchange.proofs.entries.read_entries.Goals as goal

pub returns-in_err-row-clause-refused : goal.returns-in_err-row-clause-refused
returns-in_err-row-clause-refused c =
    let text = c.args.text.now in
    let so_far = map row_entry c.loop.rows.items in
    passed_on (many c.args.count (entry c.args.format)) text c.from_residual.result c.in_err-row.field-0.0 c.from_residual.ensures.1
    (refused_with (entry c.args.format) (many c.args.count (entry c.args.format)) text c.loop.rest.now
    (many_leaves (entry c.args.format) (entry_once c.args.format) c.args.count c.loop.counter text c.loop.rest.now so_far c.loop-test.true c.loop.invariant.lines)
    c.in_err-row.field-0.0 c.in_err-row.ensures.refused)

pub loop-preserved : goal.loop-preserved
loop-preserved c =
    let row = c.in_ok-row.row in
    let pushed : map row_entry c.push.new.self.items ≡ map row_entry c.loop.rows.items ++ row_entry row ∷ [] = ap (map row_entry) c.in_ok-push.ensures.items
    ∙ map_push row_entry c.loop.rows.items row in
    record {
      lines = rw pushed (many_more (entry c.args.format) c.loop.counter c.args.text.now c.loop.rest.now _ (map row_entry c.loop.rows.items) (row_entry row) c.loop.invariant.lines
          c.in_ok-row.ensures.found);
    }
