use Rattle.std.proofs.Common.{◌≡◌, ◌++◌, length}
use Rattle.json.specs.Tree.{items_tokens}
use Rattle.timemap_formats.specs.Json.{page_items}
use Rattle.timemap_formats.proofs.json_form.push_pages.Given as goal

-- what is written, and the pages of the rows that are left, are the whole
abbrev pub invariant-loop-left : goal.invariant-loop-left
invariant-loop-left l =
    l.out ++ items_tokens (page_items l.base l.left) ≡ l.fn.out ++ items_tokens (page_items l.base l.rows)

abbrev pub decreases-loop-left : goal.decreases-loop-left
decreases-loop-left l = length l.left
