use Rattle.std.proofs.Common.{◌==◌, take, ap, ◌∙◌, rules, tests}
use Rattle.std.proofs.lemmas.Iterator.{YieldsList-from_slice}
use Rattle.std.proofs.lemmas.Iterator.Search.{position_from_yields_List}
use Rattle.outgoing_requests.proofs.Places.{place_is}
use Rattle.outgoing_requests.proofs.targets.before_fragment.Goals as goal

pub returns : goal.returns
returns c =
    let found = position_from_yields_List (λ b. b == 0x23) _ _ c.position.result c.position.ensures.ran (YieldsList-from_slice _ c.iter.ensures.rest) (λ x b q k. search (rules, tests)) in
    ap (λ n. take n c.args.rest.now) (c.unwrap_or-end.ensures ∙ place_is (λ b. b == 0x23) c.args.rest.now c.position.result found)
