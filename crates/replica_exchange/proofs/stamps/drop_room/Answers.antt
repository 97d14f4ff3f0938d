use Rattle.std.proofs.Common.{◌≡◌, Some, None, sym, ap, subst, ◌∙◌}
use Rattle.std.specs.Option.{option_copied_mut}
use Rattle.std.specs.BTreeMap as tree
use Rattle.memento_time.specs.Mementos.{text_cmp}
use Rattle.replica_exchange.specs.StampShelves.{stamp_in, slot_of}
use Rattle.harvest_lattice.proofs.ShelfLemmas.{is_some_is}
use Rattle.replica_exchange.proofs.ShelfLemmas.{same_shelf, no_more_empty}
use Rattle.replica_exchange.proofs.stamps.drop_room.Goals as goal

pub returns-clause-same : goal.returns-clause-same
returns-clause-same c =
    let there : tree.get text_cmp c.args.shelves.now c.args.archive ≡ Some c.in-Some.shelf.now = sym c.get_mut.ensures.value ∙ ap option_copied_mut c.in-Some.is in
    same_shelf c.args.shelves.now (c.get_mut.follows.lender c.drop_empty.new.self) c.args.archive c.drop_empty.new.self
    ((c.get_mut.follows.holds c.drop_empty.new.self).3 (is_some_is (tree.get text_cmp c.args.shelves.now c.args.archive) c.in-Some.shelf.now there)).0
    (λ o. c.drop_empty.ensures.same o ∙ sym (ap (λ s. stamp_in (slot_of s o)) there))

pub returns-clause-others : goal.returns-clause-others
returns-clause-others c =
    let there : tree.get text_cmp c.args.shelves.now c.args.archive ≡ Some c.in-Some.shelf.now = sym c.get_mut.ensures.value ∙ ap option_copied_mut c.in-Some.is in
    no_more_empty c.args.shelves.now (c.get_mut.follows.lender c.drop_empty.new.self) c.args.archive c.drop_empty.new.self
    ((c.get_mut.follows.holds c.drop_empty.new.self).3 (is_some_is (tree.get text_cmp c.args.shelves.now c.args.archive) c.in-Some.shelf.now there)).0
    (λ o was. c.drop_empty.ensures.others o (subst (λ s. ¬ (slot_of s o ≡ Some None)) there was))
