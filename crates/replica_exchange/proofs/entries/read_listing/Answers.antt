use Rattle.std.proofs.Common.{refl}
use Rattle.replica_exchange.specs.Spelling.{number}
use Rattle.replica_exchange.specs.Parts.{entry, many, listing}
use Rattle.replica_exchange.proofs.Sequences.{passed_on_whole, refused_whole, malformed_whole}
use Rattle.replica_exchange.proofs.StateLemmas.{listing_has_front, listing_leaves_count, listing_leaves_entries, listing_unended, listing_found}
use Rattle.replica_exchange.proofs.entries.read_listing.Goals as goal

pub returns-in_err-rest-clause-refused : goal.returns-in_err-rest-clause-refused
returns-in_err-rest-clause-refused c =
    let text = c.args.text.now in
    let refused = c.in_err-rest.ensures.refused in
    passed_on_whole (listing c.args.format) text c.from_residual.result c.in_err-rest.field-0.0 c.from_residual.ensures.1
    (malformed_whole (listing c.args.format) text c.in_err-rest.field-0.0 refused.0 (listing_has_front c.args.format text refused.1))

pub returns-in_err-count-clause-refused : goal.returns-in_err-count-clause-refused
returns-in_err-count-clause-refused c =
    let text = c.args.text.now in
    passed_on_whole (listing c.args.format) text c.from_residual-in_err-count.result c.in_err-count.field-0.0 c.from_residual-in_err-count.ensures.1
    (refused_whole (number 10) (listing c.args.format) text _ (listing_leaves_count c.args.format text _ c.in_ok-rest.ensures.found) c.in_err-count.field-0.0 c.in_err-count.ensures.refused)

pub returns-in_err-rows-clause-refused : goal.returns-in_err-rows-clause-refused
returns-in_err-rows-clause-refused c =
    let text = c.args.text.now in
    passed_on_whole (listing c.args.format) text c.from_residual-in_err-rows.result c.in_err-rows.field-0.0 c.from_residual-in_err-rows.ensures.1
    (refused_whole (many c.in_ok-count.count (entry c.args.format)) (listing c.args.format) text _
    (listing_leaves_entries c.args.format text _ c.in_ok-rest.ensures.found _ _ c.in_ok-count.ensures.found) c.in_err-rows.field-0.0 c.in_err-rows.ensures.refused)

pub returns-then-not-is_end-clause-refused : goal.returns-then-not-is_end-clause-refused
returns-then-not-is_end-clause-refused c = listing_unended c.args.format c.args.text.now _ c.in_ok-rest.ensures.found _ _ c.in_ok-count.ensures.found _ _
    c.in_ok-rows.ensures.found (λ end. let no = c.if-not-is_end.ensures.1 end in absurd cc)

pub returns-clause-found : goal.returns-clause-found
returns-clause-found c = listing_found c.args.format c.args.text.now _ c.in_ok-rest.ensures.found _ _ c.in_ok-count.ensures.found _ _ c.in_ok-rows.ensures.found (c.if-not-is_end.ensures.0 refl)
