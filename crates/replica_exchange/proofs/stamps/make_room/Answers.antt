use Rattle.std.proofs.Common.{◌≡◌, Some, IsSome, sym, ap, subst, ◌∙◌}
use Rattle.std.specs.Option.{option_copied_mut}
use Rattle.std.specs.BTreeMap as tree
use Rattle.memento_time.specs.Mementos.{text_cmp}
use Rattle.replica_exchange.specs.StampShelves.{stamp_in, slot_of}
use Rattle.harvest_lattice.proofs.ShelfLemmas.{is_some_is}
use Rattle.replica_exchange.proofs.ShelfLemmas.{same_shelf, slots_stay}
use Rattle.replica_exchange.proofs.stamps.make_room.Goals as goal

there : (c : goal.After-shelves-in-Some-1) → tree.get text_cmp c.make_shelf.new.shelves c.args.archive ≡ Some c.in-Some.shelf.now
there c = sym c.get_mut.ensures.value ∙ ap option_copied_mut c.in-Some.is

pub returns-in-Some-clause-same : goal.returns-in-Some-clause-same
returns-in-Some-clause-same c k =
    same_shelf c.make_shelf.new.shelves (c.get_mut.follows.lender c.make_slot.new.self) c.args.archive c.make_slot.new.self
    ((c.get_mut.follows.holds c.make_slot.new.self).3 (is_some_is (tree.get text_cmp c.make_shelf.new.shelves c.args.archive) c.in-Some.shelf.now (there c))).0
    (λ o. c.make_slot.ensures.same o ∙ sym (ap (λ s. stamp_in (slot_of s o)) (there c))) k
    ∙ c.make_shelf.ensures.same k

pub returns-in-Some-clause-stay : goal.returns-in-Some-clause-stay
returns-in-Some-clause-stay c k had =
    slots_stay c.make_shelf.new.shelves (c.get_mut.follows.lender c.make_slot.new.self) c.args.archive c.make_slot.new.self
    ((c.get_mut.follows.holds c.make_slot.new.self).3 (is_some_is (tree.get text_cmp c.make_shelf.new.shelves c.args.archive) c.in-Some.shelf.now (there c))).0
    (λ o h. c.make_slot.ensures.stay o (subst (λ s. IsSome (slot_of s o)) (there c) h)) k (c.make_shelf.ensures.stay k had)
