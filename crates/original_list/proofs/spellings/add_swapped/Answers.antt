use Rattle.std.proofs.Common.{◌≡◌, ◌++◌, ◌∷◌, [], ℕ, Bool, true, List, not, sym, ap, ◌∙◌, arith, append_assoc}
use Rattle.std.specs.Prelude.{filter, if◌then◌else◌}
use Rattle.std.proofs.lemmas.Grind.{common_steps}
use Rattle.std.proofs.lemmas.List.Elements.{filter-append}
use Rattle.original_list.specs.Spellings.{is_itself, swapped_spellings, text_of}
use Rattle.original_list.proofs.spellings.add_swapped.Goals as goal

pub returns : goal.returns
returns c =
    let old = c.args.list.now.items in
    let rest = c.args.rest.now in
    let one = text_of c.args.front.is_secure (not c.args.front.has_www) rest in
    let other = text_of (not c.args.front.is_secure) (not c.args.front.has_www) rest in
    let may : c.may_swap.result ≡ true = grind (arith, common_steps) in
    let on : swapped_spellings c.args.front.is_secure c.args.front.has_www rest ≡ one ∷ other ∷ [] =
    ap (λ (b : Bool). if b then one ∷ other ∷ [] else []) (sym c.may_swap.ensures ∙ may) in
    c.in_ok-add_spelling-2.ensures
    ∙ (ap (λ (xs : List (List ℕ)). xs ++ filter is_itself (other ∷ [])) c.in_ok-add_spelling.ensures
    ∙ (append_assoc old (filter is_itself (one ∷ [])) (filter is_itself (other ∷ []))
    ∙ ap (λ (xs : List (List ℕ)). old ++ xs) (sym (filter-append is_itself (one ∷ []) (other ∷ [])) ∙ ap (λ (xs : List (List ℕ)). filter is_itself xs) (sym on))))
