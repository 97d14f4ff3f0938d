use Rattle.round_standing.proofs.ListingLemmas.{text_reported}
use Rattle.round_standing.proofs.listing.check_list.Goals as goal

pub returns : goal.returns
returns g c =
    text_reported _ _ c.in-Some.path _ _ c.deref.result.now _ _ c.in-Some.is c.in-Ok-read_list.ensures.bad c.in-Ok-read_list.ensures.count c.say_bad.ensures
