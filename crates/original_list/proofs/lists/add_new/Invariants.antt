use Rattle.std.proofs.Common.{◌≡◌, ℕ, List, ◌++◌, ◌||◌, take}
use Rattle.original_sets.specs.Sets.{stands}
use Rattle.original_list.specs.Lists.{new_after}
use Rattle.original_list.proofs.lists.add_new.Given as goal

abbrev pub invariant-loop-original : goal.invariant-loop-original
invariant-loop-original l = record {
  seen : (o : List ℕ) → stands l.seen o ≡ (stands l.fn.seen o || stands (take l.original-index l.more) o);
  list : l.list.items ≡ l.initial.list.items ++ new_after l.initial.seen (take l.original-index l.more);
}
