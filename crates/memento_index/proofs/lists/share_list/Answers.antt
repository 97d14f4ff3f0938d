use Rattle.std.proofs.Common.{◌≡◌, Some, is_some, sym, ap, ◌∙◌}
use Rattle.std.specs.Option.{option_copied_mut}
use Rattle.std.specs.BTreeMap as tree
use Rattle.memento_time.specs.Mementos.{text_cmp}
use Rattle.memento_index.specs.Tallies.{Tallied}
use Rattle.memento_index.proofs.ListLemmas.{one_stays}
use Rattle.memento_index.proofs.lists.share_list.Goals as goal

pub returns-in-Some-get_mut : goal.returns-in-Some-get_mut
returns-in-Some-get_mut c =
    let m = c.args.lists.now in
    let a = c.args.original.now in
    let list = c.share_with.new.self in
    let here : tree.get text_cmp m a ≡ Some c.in-Some-get_mut.list.now = sym c.get_mut.ensures.value
    ∙ ap option_copied_mut c.in-Some-get_mut.is in
    let there : is_some (tree.get text_cmp m a) ≡ is_some (Some c.in-Some-get_mut.list.now) = ap is_some here in
    one_stays m (c.get_mut.follows.lender list) a list ((c.get_mut.follows.holds list).3 there).0
    (here ∙ ap (λ (t : Tallied). Some t) (sym c.share_with.ensures))
