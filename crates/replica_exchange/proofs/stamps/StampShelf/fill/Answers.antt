use Rattle.std.proofs.Common.{◌≡◌, None, Some, sym, ap, ◌∙◌}
use Rattle.std.specs.Option.{option_copied_mut}
use Rattle.std.specs.BTreeMap as tree
use Rattle.std.specs.FinMap as map
use Rattle.memento_time.specs.Mementos.{text_cmp}
use Rattle.replica_exchange.specs.StampShelves.{Slots}
use Rattle.harvest_lattice.proofs.ShelfLemmas.{is_some_is}
use Rattle.replica_exchange.proofs.ShelfLemmas.{get-slots, slot_put, not_some}
use Rattle.replica_exchange.proofs.stamps.StampShelf.fill.Goals as goal

pub returns : goal.returns
returns c =
    let o = c.args.original.now in
    let there : tree.get text_cmp c.self.inside.slots o ≡ Some c.in-Some.slot.now = sym c.get_mut.ensures.value ∙ ap option_copied_mut c.in-Some.is in
    slot_put c.self.inside.slots.entries (c.get_mut.follows.lender (Some c.args.stamp)).entries o (Some c.args.stamp) c.args.self.now c.self.view_is
    ((c.get_mut.follows.holds (Some c.args.stamp)).3 (is_some_is (tree.get text_cmp c.self.inside.slots o) c.in-Some.slot.now there)).0

pub returns-in_default : goal.returns-in_default
returns-in_default c =
    let o = c.args.original.now in
    let none : map.get c.args.self.now o ≡ None = ap (λ (s : Slots). map.get s o) (sym c.self.view_is)
    ∙ (get-slots c.self.inside.slots.entries o ∙ (sym c.get_mut.ensures.value ∙ ap option_copied_mut c.in_default.is)) in
    absurd (not_some (map.get c.args.self.now o) none c.requires)
