use Rattle.std.proofs.Common.{map, ap, sym, ◌∙◌}
use Rattle.std.proofs.lemmas.List.{take-map}
use Rattle.replica_exchange.specs.StampOrder.{stamp_and_key}
use Rattle.replica_exchange.proofs.order.StampOrder.truncate.Goals as goal

pub returns : goal.returns
returns c = ap (map stamp_and_key) c.truncate.ensures.items ∙ sym (take-map stamp_and_key c.args.len c.args.self.now.rows.items)
