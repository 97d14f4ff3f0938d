use Rattle.std.proofs.Common.{◌≡◌, ℕ, Bool, true, false, List, drop, sym, ap, subst, ◌∙◌}
use Rattle.std.specs.Prelude.{IfOk, codes, filter, nat_eq, if◌then◌else◌}
use Rattle.std.specs.List.{starts_with}
use Rattle.original_list.specs.Spellings.{is_itself, other_spellings, others_behind, plain_spellings}
use Rattle.original_list.proofs.spellings.spellings_of.Goals as goal

pub returns-in-Some : goal.returns-in-Some
returns-in-Some c =
    let text = c.args.original.now in
    let value = c.as_bytes-text.ensures.value in
    let found = c.in-Some.ensures.found in
    let secure : starts_with nat_eq text (codes "https://") ≡ true = ap (λ (t : List ℕ). starts_with nat_eq t (codes "https://")) (sym value) ∙ found.0 in
    let is : others_behind true c.in-Some.rest.now ≡ other_spellings text =
    ap (λ (t : List ℕ). others_behind true t) (found.1 ∙ ap (λ (t : List ℕ). drop 8 t) value)
    ∙ sym (ap (λ (b : Bool). if b then others_behind true (drop 8 text) else plain_spellings text) secure) in
    let P : List (List ℕ) → Type 0 = λ texts. IfOk c.others_behind.result (λ list. list.items ≡ filter is_itself texts) in
    subst P is c.others_behind.ensures

pub returns-in-None : goal.returns-in-None
returns-in-None c =
    let text = c.args.original.now in
    let value = c.as_bytes-text.ensures.value in
    let other : starts_with nat_eq text (codes "https://") ≡ false = ap (λ (t : List ℕ). starts_with nat_eq t (codes "https://")) (sym value) ∙ c.in-None.ensures.none in
    let is : plain_spellings c.as_bytes-text.result.now ≡ other_spellings text =
    ap (λ (t : List ℕ). plain_spellings t) value
    ∙ sym (ap (λ (b : Bool). if b then others_behind true (drop 8 text) else plain_spellings text) other) in
    let P : List (List ℕ) → Type 0 = λ texts. IfOk c.plain_spellings.result (λ list. list.items ≡ filter is_itself texts) in
    subst P is c.plain_spellings.ensures
