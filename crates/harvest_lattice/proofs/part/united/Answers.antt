use Rattle.std.proofs.Common.{sym, subst, ◌∙◌}
use Rattle.std.specs.Arc.{arc_value}
use Rattle.memento_sets.specs.MementoSets.{Mementos, IsSubset}
use Rattle.harvest_lattice.proofs.Entries.{union_subset, union_taken}
use Rattle.harvest_lattice.proofs.part.united.Goals as goal

pub returns-then-is_subset : goal.returns-then-is_subset
returns-then-is_subset c =
    let s : Mementos = arc_value c.args.left.now in
    let t : Mementos = arc_value c.args.right.now in
    c.in_ok-both.ensures ∙ sym (union_subset s t (subst (λ (u : Mementos). IsSubset u t) c.deref.ensures
    (subst (λ (u : Mementos). IsSubset c.deref.result.now u) c.deref-2.ensures
    (c.is_subset.ensures.0 c.if-is_subset.true))))

pub returns-then-is_subset-2 : goal.returns-then-is_subset-2
returns-then-is_subset-2 c =
    let s : Mementos = arc_value c.args.left.now in
    let t : Mementos = arc_value c.args.right.now in
    c.in_ok-both-2.ensures ∙ union_taken s t (subst (λ (u : Mementos). IsSubset u s) c.deref-3.ensures
    (subst (λ (u : Mementos). IsSubset c.deref-3.result.now u) c.deref-4.ensures
    (c.is_subset-2.ensures.0 c.if-is_subset-2.true)))
