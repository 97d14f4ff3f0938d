use Rattle.std.proofs.Common.{◌≡◌, ◌++◌, ◌||◌, ◌∷◌, [], List, None, take, drop, reverse, refl, sym, ap, subst, ◌∙◌}
use Rattle.std.specs.List.{list_any, slice_get}
use Rattle.std.specs.List.Sorted.{IsStrictlySortedBy}
use Rattle.std.specs.Ordering.{eq_by_cmp}
use Rattle.std.proofs.lemmas.List.{take-append-drop}
use Rattle.std.proofs.lemmas.Option.{none-some}
use Rattle.memento_time.specs.Mementos.{memento_cmp}
use Rattle.memento_time.specs.declared.mementos.Memento.{Memento}
use Rattle.memento_sets.proofs.UnitedLemmas.{added_behind, reverse_twice, any_none, united_is}
use Rattle.memento_sets.proofs.mementos.unite.Goals as goal

nothing_first : (xs : List Memento) → None ≡ slice_get xs 0 → xs ≡ []
nothing_first [] none = refl
nothing_first (x ∷ xs) none = absurd (none-some x none)

pub returns-in-None-clause-members : goal.returns-in-None-clause-members
returns-in-None-clause-members c =
    let none : c.args.added.items ≡ [] =
    nothing_first c.args.added.items (c.in-None.ensures.value
    ∙ ap (λ (xs : List Memento). slice_get xs 0) c.deref.ensures.value) in
    united_is c.args.list.now.items c.args.list.now.items c.args.added.items
    (λ m. sym (any_none (eq_by_cmp memento_cmp m) (list_any (eq_by_cmp memento_cmp m) c.args.list.now.items) c.args.added.items none))

pub merge-requires-clause-added_in_order : goal.merge-requires-clause-added_in_order
merge-requires-clause-added_in_order c =
    let m = c.in-Some.first.now in
    let at = c.count_below-at.result in
    let front : take at c.deref-in-Some.result.now ≡ c.split_off.new.self.items =
    ap (take at) (c.deref-in-Some.ensures.value ∙ sym c.in_ok-reserve.ensures.items) ∙ sym c.in_ok-lifted.ensures.items in
    added_behind c.split_off.new.self.items c.args.added.items m
    (ap (λ (xs : List Memento). slice_get xs 0) (sym c.deref.ensures.value) ∙ sym c.in-Some.ensures.value)
    (subst (λ (xs : List Memento). IsStrictlySortedBy memento_cmp (xs ++ m ∷ [])) front c.count_below-at.ensures.below)
    c.requires.added_in_order

pub returns-clause-members : goal.returns-clause-members
returns-clause-members c =
    let at = c.count_below-at.result in
    let back : reverse c.reverse.new.self.items ≡ drop at c.reserve.new.self.items =
    ap (λ (xs : List Memento). reverse xs) c.reverse.ensures.items ∙ (reverse_twice c.in_ok-lifted.lifted.items ∙ c.in_ok-lifted.ensures.tail) in
    let whole : c.split_off.new.self.items ++ reverse c.reverse.new.self.items ≡ c.args.list.now.items =
    (λ i. c.in_ok-lifted.ensures.items i ++ back i) ∙ (take-append-drop at c.reserve.new.self.items ∙ c.in_ok-reserve.ensures.items) in
    united_is c.merge.new.list.items c.args.list.now.items c.args.added.items (λ m.
    c.merge.ensures.members m ∙ ap (λ (xs : List Memento). list_any (eq_by_cmp memento_cmp m) xs
    || list_any (eq_by_cmp memento_cmp m) c.args.added.items) whole)
