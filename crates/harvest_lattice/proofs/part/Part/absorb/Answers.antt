use Rattle.std.proofs.Common.{subst}
use Rattle.std.specs.Arc.{arc_value}
use Rattle.memento_sets.specs.MementoSets.{Mementos, IsSubset}
use Rattle.harvest_lattice.proofs.Entries.{union_taken}
use Rattle.harvest_lattice.proofs.part.Part.absorb.Goals as goal

pub returns-then-is_subset-clause-ok : goal.returns-then-is_subset-clause-ok
returns-then-is_subset-clause-ok c =
    let x = c.args.self.now in
    let sub : IsSubset (arc_value c.args.other) x.1 = subst (λ (s : Mementos). IsSubset s x.1) c.deref.ensures
    (subst (λ (t : Mementos). IsSubset c.deref.result.now t) c.set.ensures
    (c.is_subset.ensures.0 c.if-is_subset.true)) in
    λ i. (x.0, union_taken x.1 (arc_value c.args.other) sub i)
