use Rattle.std.proofs.Common.{◌≡◌, ℕ, List, [], ap, sym, subst}
use Rattle.std.specs.FinMap as map
use Rattle.replica_exchange.specs.Stamps.{Stamps, StampedState, IsStamped}
use Rattle.replica_exchange.specs.StampShelves.{Slots, all_rows, stamps_in}
use Rattle.replica_exchange.specs.StampOrder.{order_of}
use Rattle.replica_exchange.proofs.OrderLemmas.{order_of_none}
use Rattle.replica_exchange.proofs.StampLemmas.{stamped_at_first}
use Rattle.replica_exchange.proofs.stamped.Stamped.new.Goals as goal

pub returns-clause-stands : goal.returns-clause-stands
returns-clause-stands c =
    let none : stamps_in c.new-2.result ≡ map.empty = ap (λ (ss : List (List ℕ × Slots)). let s : Stamps = map.from_entries (all_rows ss) in s) c.new-2.ensures.empty in
    let is : (let s : StampedState = record { entries = c.new.result; stamps = stamps_in c.new-2.result; number = 0; incarnation = c.args.incarnation } in s) ≡ record
    { entries = map.empty; stamps = map.empty; number = 0; incarnation = c.args.incarnation } =
    λ i. record { entries = c.new.ensures i; stamps = none i; number = 0; incarnation = c.args.incarnation } in
    subst (IsStamped []) (sym is) (stamped_at_first c.args.incarnation)

pub invariant_of-result : goal.invariant_of-result
invariant_of-result c = (c.new-2.ensures.ordered, order_of_none c.new-2.result (order_of c.new-3.result) c.new-2.ensures.empty c.new-3.ensures)
