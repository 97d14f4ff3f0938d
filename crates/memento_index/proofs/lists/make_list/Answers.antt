use Rattle.std.proofs.Common.{◌≡◌, Option, Some, is_some, false, sym, ap, subst, ◌∙◌}
use Rattle.std.specs.BTreeMap as tree
use Rattle.memento_time.specs.Mementos.{text_cmp}
use Rattle.memento_index.specs.Tallies.{Tallied}
use Rattle.memento_index.specs.Lists.{Grows}
use Rattle.memento_index.proofs.ListLemmas.{one_grows, none_there}
use Rattle.memento_index.proofs.lists.make_list.Goals as goal

pub returns-in_ok-insert-clause-grow : goal.returns-in_ok-insert-clause-grow
returns-in_ok-insert-clause-grow c =
    let m = c.args.lists.now in
    let a = c.in_ok-original.original in
    let none : is_some (tree.get text_cmp m a) ≡ false =
    ap (λ o. is_some (tree.get text_cmp m o)) c.in_ok-original.ensures
    ∙ (sym c.contains_rising.ensures ∙ c.if-not-contains_rising.true) in
    one_grows m c.insert.new.self a c.new.result c.in_ok-insert.ensures.updates.0
    (subst (λ (t : Option Tallied). Grows t (Some c.new.result)) (sym (none_there (tree.get text_cmp m a) none))
    c.new.ensures)
