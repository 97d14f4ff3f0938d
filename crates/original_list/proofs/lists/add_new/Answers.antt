use Rattle.std.proofs.Common.{◌≡◌, ◌+◌, ◌++◌, ◌∷◌, [], ◌||◌, ℕ, List, take, sym, ap, subst, ◌∙◌}
use Rattle.std.proofs.lemmas.List.{take_more}
use Rattle.original_sets.specs.Sets.{stands}
use Rattle.original_list.specs.Lists.{new_after}
use Rattle.original_list.proofs.ListLemmas.{list_more, seen_more}
use Rattle.original_list.proofs.lists.add_new.Goals as goal

pub loop-original-preserved : goal.loop-original-preserved
loop-original-preserved c =
    let more = c.args.more.now in
    let i = c.loop-original.original-index in
    let x = c.original-item.result in
    let done = take i more in
    let first = c.args.seen.now in
    let seen = c.loop-original.seen in
    let new = c.add_one.new.seen in
    let at : done ++ x ∷ [] ≡ take (i + 1) more =
    ap (λ (y : List ℕ). done ++ y ∷ []) c.original-item.is ∙ sym (take_more more i x c.loop-original-test.true) in
    record {
      seen = λ o. subst (λ (xs : List (List ℕ)). stands new o ≡ (stands first o || stands xs o)) at
          (seen_more first seen new done x o (c.in_ok-add_one.ensures.seen o) (c.loop-original.invariant.seen o));
      list = subst (λ (xs : List (List ℕ)). c.add_one.new.list.items ≡ c.args.list.now.items ++ new_after first xs) at
          (list_more c.args.list.now.items c.loop-original.list.items c.add_one.new.list.items first seen done x
          c.loop-original.invariant.list c.in_ok-add_one.ensures.list (c.loop-original.invariant.seen x));
    }
