use Rattle.std.proofs.Common.{◌≡◌, ◌+◌, drop}
use Rattle.toml.specs.View.{items_view}
use Rattle.original_list.specs.Entries.{first_bad}
use Rattle.original_list.proofs.entries.first_bad.Given as goal

abbrev pub invariant-loop-place : goal.invariant-loop-place
invariant-loop-place l = first_bad 1 (items_view l.entries) ≡ first_bad (l.place + 1) (items_view (drop l.place l.entries))
