use Rattle.std.proofs.Common.{◌++◌}
use Rattle.timemap_writer.specs.Pages.{stretch_links}
use Rattle.timemap_writer.proofs.Pieces.{lines_are}
use Rattle.timemap_writer.proofs.timemap.listing.Goals as goal

pub returns : goal.returns
returns c =
    let base = c.args.place.now.service.now in
    let original = c.args.place.now.original.now in
    rw (c.in_ok-extend_from_slice.ensures.items, c.in_ok-push_mementos.ensures, c.in_ok-push_head.ensures, c.in_ok-text.ensures.items)
    (lines_are base original (base ++ c.args.place.now.path.now ++ original) c.args.mementos.now (stretch_links c.args.first c.args.more c.args.mementos.now))
