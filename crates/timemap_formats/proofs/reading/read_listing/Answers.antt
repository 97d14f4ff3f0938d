use Rattle.timemap_formats.proofs.ReadingLemmas.{listed_lists, refused_lists}
use Rattle.timemap_formats.proofs.reading.read_listing.Goals as goal

pub returns-in-Ok : goal.returns-in-Ok
returns-in-Ok c = listed_lists c.args.text.now c.in-Ok.links c.listing_of.result c.in-Ok.ensures c.listing_of.ensures

pub returns-in-Err : goal.returns-in-Err
returns-in-Err c = refused_lists c.args.text.now c.in-Err.fault c.refused.result c.in-Err.ensures c.refused.ensures
