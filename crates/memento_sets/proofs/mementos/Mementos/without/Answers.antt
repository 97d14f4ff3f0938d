use Rattle.std.proofs.Common.{not, List, sym, ap, subst, ◌∙◌}
use Rattle.std.specs.List.{filter}
use Rattle.std.specs.List.Sorted.{IsStrictlySortedBy}
use Rattle.std.proofs.lemmas.List.Kept.{IsStrictlySortedBy-filter}
use Rattle.memento_time.specs.Mementos.{memento_cmp}
use Rattle.memento_time.specs.declared.mementos.Memento.{Memento}
use Rattle.memento_sets.specs.Sets as set
use Rattle.memento_sets.proofs.Sets.{items_sorted}
use Rattle.memento_sets.proofs.mementos.Mementos.without.Goals as goal

pub invariant_of-result : goal.invariant_of-result
invariant_of-result c =
    subst (λ (xs : List Memento). IsStrictlySortedBy memento_cmp xs) (sym c.in_ok-list.ensures)
    (IsStrictlySortedBy-filter memento_cmp (λ m. not (set.contains c.args.other.now m)) c.as_slice.result.now
    (subst (λ (xs : List Memento). IsStrictlySortedBy memento_cmp xs) (sym c.as_slice.ensures) (items_sorted memento_cmp c.args.self.now)))

pub returns : goal.returns
returns c = ap (λ (xs : List Memento). set.from_list {R = memento_cmp} xs)
    (c.in_ok-list.ensures ∙ ap (λ (xs : List Memento). filter (λ m. not (set.contains c.args.other.now m)) xs) c.as_slice.ensures)
