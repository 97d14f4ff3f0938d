use Rattle.std.proofs.Common.{◌≡◌, cond, Some, sym, ap, ◌∙◌}
use Rattle.std.specs.Option.{option_copied_mut}
use Rattle.std.specs.BTreeMap as tree
use Rattle.std.specs.Ordering.{eq_by_cmp}
use Rattle.memento_time.specs.Mementos.{text_cmp}
use Rattle.replica_exchange.specs.StampShelves.{Slots, slot, slot_of}
use Rattle.harvest_lattice.proofs.ShelfLemmas.{is_some_is}
use Rattle.replica_exchange.proofs.ShelfLemmas.{one_filled, not_some}
use Rattle.replica_exchange.proofs.stamps.fill.Goals as goal

pub returns-clause-after : goal.returns-clause-after
returns-clause-after c =
    let m = c.args.shelves.now in
    let a = c.args.archive in
    let there : tree.get text_cmp m a ≡ Some c.in-Some.shelf.now = sym c.get_mut.ensures.value ∙ ap option_copied_mut c.in-Some.is in
    let put = ((c.get_mut.follows.holds c.fill.new.self).3 (is_some_is (tree.get text_cmp m a) c.in-Some.shelf.now there)).0 in
    one_filled m (c.get_mut.follows.lender c.fill.new.self) a c.args.original.now c.in-Some.shelf.now c.args.stamp
    (λ q. put q ∙ ap (λ (s : Slots). cond (eq_by_cmp text_cmp a q) (Some s) (tree.get text_cmp m q)) c.fill.ensures) there

pub returns-in_default-clause-after : goal.returns-in_default-clause-after
returns-in_default-clause-after c = absurd (not_some (slot c.args.shelves.now (c.args.archive, c.args.original.now))
    (ap (λ s. slot_of s c.args.original.now) (sym c.get_mut.ensures.value ∙ ap option_copied_mut c.in_default.is)) c.requires.room)
