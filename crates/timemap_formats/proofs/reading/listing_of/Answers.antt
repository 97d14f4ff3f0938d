use Rattle.std.proofs.Common.{sym, subst, ap, ◌∙◌, drop, Option}
use Rattle.std.specs.Prelude.{IfOk, ◌≡◌}
use Rattle.timemap_formats.specs.declared.listing.Listing.{Listing}
use Rattle.timemap_formats.specs.declared.listing.Head.{Head}
use Rattle.timemap_formats.specs.Listing.{listing_below}
use Rattle.timemap_formats.proofs.ReadingLemmas.{listing_three}
use Rattle.timemap_formats.proofs.reading.listing_of.Goals as goal

pub returns : goal.returns
returns c =
    let links = c.args.links.now in
    subst (λ (l : Option Listing). IfOk c.listing_below.result (λ listing. listing ≡ l))
    (ap (λ (h : Option Head). listing_below h (drop 3 links)) c.in_ok-head.ensures
    ∙ sym (listing_three links c.target-original.result.now c.target-gate.result.now c.target-itself.result.now
    c.target-original.ensures c.target-gate.ensures c.target-itself.ensures))
    c.listing_below.ensures
