use Rattle.std.proofs.Common.{◌==◌, take, sym, ap, ◌∙◌, rules, tests}
use Rattle.std.proofs.lemmas.Iterator.{YieldsList-from_slice}
use Rattle.std.proofs.lemmas.Iterator.Search.{position_from_yields_List}
use Rattle.memento_time.proofs.FirstLemmas.{end_is, none_is}
use Rattle.memento_time.proofs.texts.before_fragment.Goals as goal

pub returns-in-Some : goal.returns-in-Some
returns-in-Some c =
    let found = position_from_yields_List (λ b. b == 0x23) _ _ c.position.result c.position.ensures.ran (YieldsList-from_slice _ c.iter.ensures.rest) (λ x b q k. search (rules, tests)) in
    ap (λ n. take n c.args.text.now) (end_is _ _ _ (sym c.in-Some.is ∙ found))

pub returns-in-None : goal.returns-in-None
returns-in-None c =
    let found = position_from_yields_List (λ b. b == 0x23) _ _ c.position.result c.position.ensures.ran (YieldsList-from_slice _ c.iter.ensures.rest) (λ x b q k. search (rules, tests)) in
    sym (none_is _ _ (sym c.in-None.is ∙ found))
