use Rattle.std.proofs.Common.{◌≡◌, length, drop, arith}
use Rattle.std.specs.List.{between}
use Rattle.std.proofs.lemmas.Slice.{between_to_end}
use Rattle.replica_exchange.proofs.OrderLemmas.{rises_of, rest_behind, rest_of}
use Rattle.replica_exchange.proofs.order.StampOrder.behind.Goals as goal

pub count_until-count-requires : goal.count_until-count-requires
count_until-count-requires c = rises_of c.args.self.now.rows.items c.as_slice-rows.result.now c.as_slice-rows.ensures.value c.requires

pub returns : goal.returns
returns c =
    let rows = c.as_slice-rows.result.now in
    let n = c.count_until-count.result in
    let is = rest_behind rows n c.args.stamp c.count_until-count.ensures.within c.count_until-count.ensures.until c.count_until-count.ensures.after in
    let rest : between n (length rows) rows ≡ drop n rows = between_to_end rows n (length rows) (omega arith) in
    rest_of c.args.stamp c.args.self.now.rows.items rows (drop n rows) (between n (length rows) rows) c.as_slice-rows.ensures.value rest is
