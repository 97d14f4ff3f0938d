use Rattle.std.proofs.Common.{List, ℕ, ◌++◌, ◌∙◌, ap, append_assoc}
use Rattle.std.specs.Prelude.{flat_map}
use Rattle.timemap_formats.specs.declared.listing.Row.{Row}
use Rattle.timemap_formats.specs.Cdxj.{row_line}
use Rattle.timemap_formats.proofs.WritingLemmas.{row_written}
use Rattle.timemap_formats.proofs.cdxj.push_rows.Goals as goal

pub loop-left-preserved : goal.loop-left-preserved
loop-left-preserved c =
    let line = row_line c.args.base.now in
    let row = c.row-item.result in
    row_written (λ rows. flat_map line rows) c.loop-left.out.items c.push_row.new.out.items _ c.loop-left.left.now row
    c.in-len1-up.len_at_least c.row-item.is
    (λ (rows : List Row). ap (λ (t : List ℕ). t ++ flat_map line rows) c.in_ok-push_row.ensures ∙ append_assoc c.loop-left.out.items (line row) (flat_map line rows))
    c.loop-left.invariant
