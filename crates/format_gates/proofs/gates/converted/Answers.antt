use Rattle.std.proofs.Common.{sym, subst, ◌∙◌}
use Rattle.timemap_formats.specs.Listing.{Lists}
use Rattle.format_gates.specs.Converted.{refusal}
use Rattle.format_gates.proofs.ConvertedLemmas.{head_made, text_made}
use Rattle.format_gates.proofs.gates.converted.Goals as goal

pub returns-then-inner-ne200 : goal.returns-then-inner-ne200
returns-then-inner-ne200 c = refusal c.if-inner-ne200.true

pub returns-then-is_head : goal.returns-then-is_head
returns-then-is_head c =
    head_made _ _ _ _ _ c.if-inner-ne200.false (sym c.is_head.ensures ∙ c.if-is_head.true) c.new.ensures.items
    c.form_reply.ensures

pub returns : goal.returns
returns c =
    text_made _ _ _ _ _ c.if-inner-ne200.false (sym c.is_head.ensures ∙ c.if-is_head.false)
    (subst (λ text. Lists text c.in_ok-listing.listing) c.as_slice.ensures c.in_ok-listing.ensures)
    c.listing_reply.ensures
