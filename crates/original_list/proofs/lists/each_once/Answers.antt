use Rattle.std.proofs.Common.{◌≡◌, ◌++◌, [], ◌||◌, ℕ, List, sym, ap, ◌∙◌}
use Rattle.original_sets.specs.Sets.{stands}
use Rattle.original_list.specs.Lists.{new_after}
use Rattle.original_list.proofs.ListLemmas.{new_after-append, new_after-same}
use Rattle.original_list.proofs.lists.each_once.Goals as goal

pub returns : goal.returns
returns c =
    let first = c.args.first.now in
    let second = c.args.second.now in
    let none : c.in_ok-seen.seen ≡ [] = c.in_ok-seen.ensures in
    let one : c.add_new.new.list.items ≡ new_after [] first = c.in_ok-add_new.ensures.list
    ∙ (ap (λ (xs : List (List ℕ)). xs ++ new_after c.in_ok-seen.seen first) c.new-list.ensures.items ∙ ap (λ (s : List (List ℕ)). new_after s first) none) in
    let same : (o : List ℕ) → stands c.add_new.new.seen o ≡ stands first o =
    λ o. c.in_ok-add_new.ensures.seen o ∙ ap (λ (s : List (List ℕ)). stands s o || stands first o) none in
    c.in_ok-add_new-2.ensures.list
    ∙ (ap (λ (xs : List (List ℕ)). xs ++ new_after c.add_new.new.seen second) one
    ∙ (ap (λ (ys : List (List ℕ)). new_after [] first ++ ys) (new_after-same c.add_new.new.seen first second same)
    ∙ sym (new_after-append [] first second)))
