use Rattle.std.proofs.Common.{◌≡◌, ◌++◌, length}
use Rattle.json.specs.Tree.{items_tokens}
use Rattle.timemap_formats.specs.Json.{memento_items}
use Rattle.timemap_formats.proofs.json_form.push_mementos.Given as goal

-- what is written, and the mementos of the rows that are left, are the whole
abbrev pub invariant-loop-left : goal.invariant-loop-left
invariant-loop-left l =
    l.out ++ items_tokens (memento_items l.left) ≡ l.fn.out ++ items_tokens (memento_items l.rows)

abbrev pub decreases-loop-left : goal.decreases-loop-left
decreases-loop-left l = length l.left
