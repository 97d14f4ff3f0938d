use Rattle.std.proofs.Common.{ℕ, ltb, ltb-false, rules}
use Rattle.std.proofs.lemmas.Bool.{ltb-true}
use Rattle.std.proofs.lemmas.List.Sorted.{IsPartitionPoint-from_clause, IsPartitionedBy-ltb}
use Rattle.memento_sets.specs.MementoSets.{Mementos}
use Rattle.harvest_lattice.proofs.PartLists.{rise_numbers}
use Rattle.harvest_lattice.proofs.ordered.count_below.Goals as goal

pub returns-clause-place : goal.returns-clause-place
returns-clause-place c =
    let parts = c.args.parts.now in
    let r = c.args.revision in
    let parted = IsPartitionedBy-ltb (λ (p : ℕ × Mementos). p.0) parts r (rise_numbers parts c.requires) in
    let point = IsPartitionPoint-from_clause (λ (p : ℕ × Mementos). ltb p.0 r) _ _ c.partition_point.ensures.partitioned parted (λ a b q k. search rules) in
    (λ k d low lt. ltb-true _ _ (point.0 k d low lt), λ k d low lt. ltb-false _ _ (point.1 k d low lt))
