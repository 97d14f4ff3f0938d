use Rattle.round_standing.proofs.ListingLemmas.{one_line_more}
use Rattle.round_standing.proofs.listing.say_bad.Goals as goal

pub loop-line-preserved : goal.loop-line-preserved
loop-line-preserved g c = one_line_more _ _ _ c.deref-line-items.result.now c.loop-line.line-index c.loop-line-test.true c.loop-line.invariant c.in_ok-say_matter.ensures
