use Rattle.std.proofs.Common.{rules, ◌++◌, ◌∷◌, [], List, ℕ, length, sym, ap, ◌∙◌}
use Rattle.std.specs.FinMap as map
use Rattle.harvest_lattice.specs.Lattice.{whole}
use Rattle.replica_exchange.specs.StateText.{whole_field}
use Rattle.replica_exchange.proofs.WritingLemmas.{written_well, line_written}
use Rattle.replica_exchange.proofs.writing.write_entry_line.Goals as goal

pub returns-clause-written : goal.returns-clause-written
returns-clause-written c =
    let kept = c.args.entry.now in
    let named = c.in_ok-write_field.ensures ∙ ap (λ (u : List ℕ). c.extend_from_slice.new.self.items ++ (u ++ 32 ∷ [])) c.as_bytes.ensures.value in
    let field = c.in_ok-write_whole.ensures.written ∙ (λ i. c.write_field.new.out.items ++ (whole_field (c.whole.ensures i) ++ 32 ∷ [])) in
    let count = c.revisions.ensures ∙ map.len-entries kept.revisions in
    written_well c.write_field-2.result
    (λ last. line_written (c.args.archive, c.args.original.now) (whole kept) (length (map.entries kept.revisions)) c.revisions.result c.args.out.now.items
    c.extend_from_slice.new.self.items c.write_field.new.out.items c.write_whole.new.out.items
    c.write_number.new.out.items c.write_field-2.new.out.items c.in_ok-extend_from_slice.ensures.items named field count c.in_ok-write_number.ensures.written
    (last ∙ ap (λ (u : List ℕ). c.write_number.new.out.items ++ (u ++ 10 ∷ [])) c.as_bytes-2.ensures.value)) c.write_field-2.ensures

pub returns-clause-fits : goal.returns-clause-fits
returns-clause-fits c = rw (sym (map.len-entries c.args.entry.now.revisions)) (search rules)
