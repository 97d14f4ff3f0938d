use Rattle.std.proofs.Common.{◌++◌, List, map, take, take_all, refl, sym, ap, ◌∙◌}
use Rattle.std.proofs.lemmas.List.{append-nil}
use Rattle.replica_exchange.specs.declared.stamps.ChangedKey.{ChangedKey}
use Rattle.replica_exchange.specs.StampOrder.{given_at, order_of}
use Rattle.replica_exchange.proofs.OrderLemmas.{front_of, one_listed}
use Rattle.replica_exchange.proofs.order.StampOrder.add_all.Goals as goal

pub loop-key-init : goal.loop-key-init
loop-key-init c = sym (append-nil (order_of c.args.self.now))

pub loop-key-preserved : goal.loop-key-preserved
loop-key-preserved c =
    one_listed c.args.stamp (order_of c.args.self.now) (order_of c.loop-key.self) (order_of c.add.new.self) c.args.keys.now c.loop-key.key-index c.key-item.result
    c.loop-key-test.true c.key-item.is c.loop-key.invariant c.in_ok-add.ensures.ok

pub returns-in_err-add-clause-front : goal.returns-in_err-add-clause-front
returns-in_err-add-clause-front c =
    front_of (order_of c.args.self.now) (order_of c.loop-key.self) (order_of c.add.new.self) (map (given_at c.args.stamp) (take c.loop-key.key-index c.args.keys.now))
    c.loop-key.invariant c.in_err-add.ensures.err

pub returns-clause-ok : goal.returns-clause-ok
returns-clause-ok c =
    c.loop-key.invariant ∙ ap (λ (ks : List ChangedKey). order_of c.args.self.now ++ map (given_at c.args.stamp) ks) (take_all c.loop-key.key-index c.args.keys.now c.loop-key-test.false)

pub returns-clause-front : goal.returns-clause-front
returns-clause-front c =
    front_of (order_of c.args.self.now) (order_of c.loop-key.self) (order_of c.loop-key.self) (map (given_at c.args.stamp) (take c.loop-key.key-index c.args.keys.now)) c.loop-key.invariant refl
