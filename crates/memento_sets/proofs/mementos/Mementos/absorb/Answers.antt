use Rattle.std.proofs.Common.{◌≡◌, List, OnOk, OnErr, Result, Ok, Err, sym, ap, subst, ◌∙◌}
use Rattle.std.specs.List.Sorted.{IsStrictlySortedBy}
use Rattle.memento_time.specs.Mementos.{memento_cmp}
use Rattle.memento_time.proofs.MementoLemmas.{memento_cmp_total, memento_cmp_exact}
use Rattle.memento_time.specs.declared.mementos.Memento.{Memento}
use Rattle.memento_sets.specs.Sets as set
use Rattle.memento_sets.specs.MementoSets.{Mementos}
use Rattle.memento_sets.proofs.Sets.{items_sorted, from_list-items}
use Rattle.memento_sets.proofs.mementos.Mementos.absorb.Goals as goal

pub unite-requires-clause-added_in_order : goal.unite-requires-clause-added_in_order
unite-requires-clause-added_in_order c = subst (λ (xs : List Memento). IsStrictlySortedBy memento_cmp xs)
    (sym c.into_vec.ensures) (items_sorted memento_cmp c.args.other)

pub returns-clause-ok : goal.returns-clause-ok
returns-clause-ok c =
    let mine = c.self.view_is in
    let theirs = ap (λ (xs : List Memento). set.from_list {R = memento_cmp} xs) c.into_vec.ensures
    ∙ from_list-items memento_cmp_total memento_cmp_exact c.args.other in
    subst (λ (s : Mementos). OnOk c.unite.result (set.from_list {R = memento_cmp} c.unite.new.list.items ≡ s))
    (λ i. set.union (mine i) (theirs i)) c.unite.ensures.members

on_err : {T E P Q : Type 0} (r : Result T E) → (P → Q) → OnErr r P → OnErr r Q
on_err (Ok x) f h = tt
on_err (Err e) f h = f h

pub returns-clause-err : goal.returns-clause-err
returns-clause-err c = on_err c.unite.result (λ same. ap (λ (xs : List Memento). set.from_list {R = memento_cmp} xs) same ∙ c.self.view_is) c.unite.ensures.err
