use Rattle.std.proofs.Common.{leb, leb-true, leb-false, rules}
use Rattle.std.proofs.lemmas.List.Sorted.{IsPartitionPoint-from_clause, IsPartitionedBy-leb}
use Rattle.replica_exchange.specs.declared.order.OrderRow.{OrderRow}
use Rattle.replica_exchange.proofs.order.count_until.Goals as goal

pub returns-clause-until : goal.returns-clause-until
returns-clause-until c =
    let rows = c.args.rows.now in
    let stamp = c.args.stamp in
    let parted = IsPartitionedBy-leb (λ (row : OrderRow). row.stamp) rows stamp c.requires in
    let point = IsPartitionPoint-from_clause (λ (row : OrderRow). leb row.stamp stamp) _ _ c.partition_point.ensures.partitioned parted (λ a b q k. search rules) in
    λ k d low lt. leb-true _ _ (point.0 k d low lt)

pub returns-clause-after : goal.returns-clause-after
returns-clause-after c =
    let rows = c.args.rows.now in
    let stamp = c.args.stamp in
    let parted = IsPartitionedBy-leb (λ (row : OrderRow). row.stamp) rows stamp c.requires in
    let point = IsPartitionPoint-from_clause (λ (row : OrderRow). leb row.stamp stamp) _ _ c.partition_point.ensures.partitioned parted (λ a b q k. search rules) in
    λ k d low lt. leb-false _ _ (point.1 k d low lt)
