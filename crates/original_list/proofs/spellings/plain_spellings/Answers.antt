use Rattle.std.proofs.Common.{◌≡◌, ℕ, Bool, false, List, [], drop, sym, ap, subst, ◌∙◌}
use Rattle.std.specs.Prelude.{IfOk, filter, if◌then◌else◌}
use Rattle.original_list.specs.Spellings.{is_itself, others_behind, plain_spellings}
use Rattle.original_list.proofs.spellings.plain_spellings.Goals as goal

pub returns-in-Some : goal.returns-in-Some
returns-in-Some c =
    let text = c.args.text.now in
    let found = c.in-Some.ensures.found in
    let is : others_behind false c.in-Some.rest.now ≡ plain_spellings text =
    ap (λ (t : List ℕ). others_behind false t) found.1
    ∙ sym (ap (λ (b : Bool). if b then others_behind false (drop 7 text) else []) found.0) in
    let P : List (List ℕ) → Type 0 = λ texts. IfOk c.others_behind.result (λ list. list.items ≡ filter is_itself texts) in
    subst P is c.others_behind.ensures
