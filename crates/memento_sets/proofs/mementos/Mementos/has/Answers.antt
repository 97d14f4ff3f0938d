use Rattle.std.proofs.Common.{List, sym, ap, subst, ◌∙◌}
use Rattle.std.specs.List.Sorted.{IsStrictlySortedBy}
use Rattle.memento_time.specs.Mementos.{memento_cmp}
use Rattle.memento_time.specs.declared.mementos.Memento.{Memento}
use Rattle.memento_sets.specs.Sets as set
use Rattle.memento_sets.specs.MementoSets.{Mementos}
use Rattle.memento_sets.proofs.Searched.{search_is}
use Rattle.memento_sets.proofs.mementos.Mementos.has.Goals as goal

pub returns : goal.returns
returns c =
    let m = c.args.memento.now in
    c.is_ok.ensures.value
    ∙ (search_is c.deref.result.now m c.binary_search.result
    (subst (λ (xs : List Memento). IsStrictlySortedBy memento_cmp xs) (sym c.deref.ensures.value) c.self.invariant) c.binary_search.ensures.bound
    c.binary_search.ensures.position
    ∙ (ap (λ (xs : List Memento). set.contains (set.from_list {R = memento_cmp} xs) m) c.deref.ensures.value
    ∙ ap (λ (s : Mementos). set.contains s m) c.self.view_is))
