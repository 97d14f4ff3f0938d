use Rattle.std.proofs.Common.{map}
use Rattle.std.proofs.lemmas.Result.{IfOk-weaker}
use Rattle.harvest_lattice.specs.Rows.{row_entry}
use Rattle.replica_exchange.proofs.OrderLemmas.{state_above, above_sorted}
use Rattle.replica_exchange.proofs.stamped.Stamped.few_above.Goals as goal

pub returns : goal.returns
returns c =
    let s = c.args.self.now in
    let sorted = c.sort_by.new.self.items in
    let above = above_sorted s c.args.start c.in_ok-rows.rows.items sorted c.sort_by.ensures.permutation c.in_ok-rows.ensures in
    IfOk-weaker c.of_rows.result _ _ (λ found made. state_above s c.args.start (map row_entry sorted) found made above) c.of_rows.ensures
