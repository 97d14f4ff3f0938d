use Rattle.std.proofs.Common.{sym, subst, ◌∙◌}
use Rattle.memento_sets.specs.MementoSets.{Mementos, IsSubset}
use Rattle.harvest_lattice.proofs.Entries.{union_subset, union_taken}
use Rattle.harvest_lattice.proofs.Staying.{shows_first, shows_more}
use Rattle.harvest_lattice.proofs.ordered.widest.Goals as goal

pub loop-part-init : goal.loop-part-init
loop-part-init c = shows_first c.args.first.now

pub loop-part-preserved-then-is_subset : goal.loop-part-preserved-then-is_subset
loop-part-preserved-then-is_subset c =
    let p = c.part-item.result in
    let s = c.loop-part.widest.now.1 in
    let sub : IsSubset p.1 s = subst (λ (t : Mementos). IsSubset t s) c.set.ensures
    (subst (λ (t : Mementos). IsSubset c.set.result.now t) c.set-in-loop-part.ensures
    (c.is_subset.ensures.0 c.if-is_subset.true)) in
    union_taken s p.1 sub ∙ shows_more c.args.first.now c.args.later.now c.loop-part.part-index p s c.loop-part-test.true c.part-item.is c.loop-part.invariant

pub loop-part-preserved : goal.loop-part-preserved
loop-part-preserved c =
    let p = c.part-item.result in
    let s = c.loop-part.widest.now.1 in
    let sub : IsSubset s p.1 = subst (λ (t : Mementos). IsSubset t p.1) c.set-in-loop-part-2.ensures
    (subst (λ (t : Mementos). IsSubset c.set-in-loop-part-2.result.now t) c.set-in-loop-part-3.ensures
    (c.is_subset-in-loop-part.ensures.0 c.if-not-is_subset.false)) in
    sym (union_subset s p.1 sub) ∙ shows_more c.args.first.now c.args.later.now c.loop-part.part-index p s
    c.loop-part-test.true c.part-item.is c.loop-part.invariant
