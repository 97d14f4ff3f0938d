use Rattle.std.proofs.Common.{drop, ap, ◌∙◌, rules, tests}
use Rattle.std.proofs.lemmas.Iterator.{YieldsList-from_slice}
use Rattle.std.proofs.lemmas.Iterator.Search.{position_from_yields_List}
use Rattle.outgoing_requests.specs.Targets.{ends_authority}
use Rattle.outgoing_requests.proofs.Places.{place_is, rest_is}
use Rattle.outgoing_requests.proofs.targets.behind_authority.Goals as goal

pub returns : goal.returns
returns c =
    let rest = c.args.rest.now in
    let found = position_from_yields_List ends_authority _ _ c.position.result c.position.ensures.ran (YieldsList-from_slice _ c.iter.ensures.rest) (λ x b q k. search (rules, tests)) in
    rest_is rest c.unwrap_or-start.result
    ∙ ap (λ n. drop n rest) (c.unwrap_or-start.ensures ∙ place_is ends_authority rest c.position.result found)
