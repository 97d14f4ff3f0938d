use Rattle.std.proofs.Common.{◌≡◌, ◌++◌, ◌∷◌, [], ℕ, Bool, true, List, not, sym, ap, ◌∙◌, arith}
use Rattle.std.specs.Prelude.{filter, if◌then◌else◌}
use Rattle.std.proofs.lemmas.Grind.{common_steps}
use Rattle.std.proofs.lemmas.List.Elements.{filter-append}
use Rattle.original_list.specs.Spellings.{is_itself, others, swapped_spellings, text_of}
use Rattle.original_list.proofs.spellings.others.Goals as goal

pub returns : goal.returns
returns c =
    let rest = c.args.rest.now in
    let first = text_of (not c.args.front.is_secure) c.args.front.has_www rest in
    let more = swapped_spellings c.args.front.is_secure c.args.front.has_www rest in
    let named : c.is_named.result ≡ true = grind (arith, common_steps) in
    let on : others c.args.front.is_secure c.args.front.has_www rest ≡ first ∷ more =
    ap (λ (b : Bool). if b then first ∷ more else []) (sym c.is_named.ensures ∙ named) in
    c.in_ok-add_swapped.ensures
    ∙ (ap (λ (xs : List (List ℕ)). xs ++ filter is_itself more)
    (c.in_ok-add_spelling.ensures ∙ ap (λ (xs : List (List ℕ)). xs ++ filter is_itself (first ∷ [])) c.new-list.ensures.items)
    ∙ (sym (filter-append is_itself (first ∷ []) more) ∙ ap (λ (xs : List (List ℕ)). filter is_itself xs) (sym on)))
