use Rattle.std.proofs.Common.{◌≡◌, false, is_some, IsSome, ℕ, List, None, sym, ap, subst, ◌∙◌}
use Rattle.std.specs.FinMap as map
use Rattle.replica_exchange.specs.StampShelves.{Slots, stamp_in}
use Rattle.replica_exchange.proofs.ShelfLemmas.{get-slots, slot_put, slot_same, slot_stay, slot_made}
use Rattle.replica_exchange.proofs.stamps.StampShelf.make_slot.Goals as goal

pub returns-in_ok-insert-clause-same : goal.returns-in_ok-insert-clause-same
returns-in_ok-insert-clause-same c o =
    let a = c.args.original.now in
    let none : is_some (map.get c.args.self.now a) ≡ false = ap (λ (s : Slots). is_some (map.get s a)) (sym c.self.view_is)
    ∙ (ap is_some (get-slots c.self.inside.slots.entries a) ∙ (sym c.contains_rising.ensures ∙ c.if-not-contains_rising.true)) in
    let put = slot_put c.self.inside.slots.entries c.insert.new.self.entries c.in_ok-original.original None c.args.self.now c.self.view_is c.in_ok-insert.ensures.updates.0
    ∙ ap (λ (o : List ℕ). map.insert c.args.self.now o None) c.in_ok-original.ensures in
    ap (λ (s : Slots). stamp_in (map.get s o)) put ∙ slot_same c.args.self.now a none o

pub returns-in_ok-insert-clause-stay : goal.returns-in_ok-insert-clause-stay
returns-in_ok-insert-clause-stay c o had =
    let put = slot_put c.self.inside.slots.entries c.insert.new.self.entries c.in_ok-original.original None c.args.self.now c.self.view_is c.in_ok-insert.ensures.updates.0
    ∙ ap (λ (o : List ℕ). map.insert c.args.self.now o None) c.in_ok-original.ensures in
    subst (λ (s : Slots). IsSome (map.get s o)) (sym put) (slot_stay c.args.self.now c.args.original.now None o had)

pub returns-in_ok-insert-clause-made : goal.returns-in_ok-insert-clause-made
returns-in_ok-insert-clause-made c =
    let put = slot_put c.self.inside.slots.entries c.insert.new.self.entries c.in_ok-original.original None c.args.self.now c.self.view_is c.in_ok-insert.ensures.updates.0
    ∙ ap (λ (o : List ℕ). map.insert c.args.self.now o None) c.in_ok-original.ensures in
    subst (λ (s : Slots). IsSome (map.get s c.args.original.now)) (sym put) (slot_made c.args.self.now c.args.original.now None)

pub returns-else-not-contains_rising-clause-made : goal.returns-else-not-contains_rising-clause-made
returns-else-not-contains_rising-clause-made c =
    let a = c.args.original.now in
    ap (λ (s : Slots). is_some (map.get s a)) (sym c.self.view_is) ∙ (ap is_some (get-slots c.self.inside.slots.entries a) ∙ (sym c.contains_rising.ensures ∙ c.if-not-contains_rising.false))
