use Rattle.std.proofs.Common.{List}
use Rattle.json.specs.Tree.{items_tokens}
use Rattle.timemap_formats.specs.declared.listing.Row.{Row}
use Rattle.timemap_formats.specs.Json.{memento_items}
use Rattle.timemap_formats.proofs.WritingLemmas.{row_written}
use Rattle.timemap_formats.proofs.json_form.push_mementos.Goals as goal

pub loop-left-preserved : goal.loop-left-preserved
loop-left-preserved c =
    row_written (λ rows. items_tokens (memento_items rows)) c.loop-left.out c.push_memento_item.new.out _ c.loop-left.left.now c.row-item.result
    c.in-len1-up.len_at_least c.row-item.is (λ (rows : List Row). c.in_ok-push_memento_item.ensures (memento_items rows)) c.loop-left.invariant
