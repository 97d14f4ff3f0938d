use Rattle.std.proofs.Common.{◌≡◌, ◌++◌, List, subst, true}
use Rattle.std.specs.Prelude.{IfOk}
use Rattle.link_format.specs.Grammar.{Link}
use Rattle.timemap_writer.specs.TimeMap.{timemap_text, timemap_address, head_links, lines_text}
use Rattle.timemap_writer.proofs.Stretches.{all_lines}
use Rattle.timemap_writer.proofs.timemap.write_timemap.Goals as goal

pub returns : goal.returns
unfolding timemap_text
returns c =
    let ms = c.args.mementos.now in
    let head = head_links c.args.service.now c.args.original.now (timemap_address c.args.service.now c.args.original.now) ms in
    subst (λ (links : List Link). IfOk c.listing.result (λ text. text.items ≡ lines_text (head ++ links))) (all_lines true ms) c.listing.ensures
