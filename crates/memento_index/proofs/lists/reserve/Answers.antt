use Rattle.std.proofs.Common.{◌≡◌, Option, Some, is_some, sym, ap, subst, ◌∙◌}
use Rattle.std.specs.Option.{option_copied_mut}
use Rattle.std.specs.BTreeMap as tree
use Rattle.memento_time.specs.Mementos.{text_cmp}
use Rattle.memento_index.specs.Tallies.{Tallied}
use Rattle.memento_index.specs.Lists.{Grows}
use Rattle.memento_index.proofs.ListLemmas.{one_grows}
use Rattle.memento_index.proofs.lists.reserve.Goals as goal

pub returns-in-Some-clause-grow : goal.returns-in-Some-clause-grow
returns-in-Some-clause-grow c =
    let m = c.args.lists.now in
    let a = c.args.original.now in
    let list = c.reserve.new.self in
    let here : tree.get text_cmp m a ≡ Some c.in-Some.list.now = sym c.get_mut.ensures.value ∙ ap option_copied_mut c.in-Some.is in
    let there : is_some (tree.get text_cmp m a) ≡ is_some (Some c.in-Some.list.now) = ap is_some here in
    one_grows m (c.get_mut.follows.lender list) a list ((c.get_mut.follows.holds list).3 there).0
    (subst (λ (t : Option Tallied). Grows t (Some list)) (sym here)
    (c.reserve.ensures.entries, c.reserve.ensures.room))
