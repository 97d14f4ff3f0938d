use Rattle.replica_exchange.proofs.stamped.Stamped.is_much_above.Goals as goal

pub behind-requires : goal.behind-requires
behind-requires c = c.self.invariant.1.rises
