-- A list cut at the first element that passes a test.
use Rattle.std.proofs.Common.{◌≡◌, ℕ, ◌-◌, Bool, true, false, not, ◌≤◌, cond, nat_lt, List, length, take, drop, Option, Some, None, unwrap_or, refl, sym, ap, ◌∙◌, arith}
use Rattle.std.specs.List.{position_or_len}
use Rattle.std.proofs.lemmas.Bool.Decides.{nat_tests}
use Rattle.std.proofs.lemmas.List.{length-drop, take_all}
use Rattle.std.proofs.lemmas.List.Sums.{prefix_len-le-length}

or_all : (found : Bool) (place len : ℕ) → (found ≡ false → place ≡ len) → unwrap_or (cond found (Some place) None) len ≡ place
or_all true place len far = refl
or_all false place len far = sym (far refl)

-- what `position` gives, or the length
pub place_is : (test : ℕ → Bool) (xs : List ℕ) (r : Option ℕ) → r ≡ cond (nat_lt (position_or_len test xs) (length xs)) (Some (position_or_len test xs)) None
    → unwrap_or r (length xs) ≡ position_or_len test xs
place_is test xs r found =
    let place = position_or_len test xs in
    let within : place ≤ length xs = prefix_len-le-length (λ x. not (test x)) xs in
    ap (λ o. unwrap_or o (length xs)) found ∙ or_all (nat_lt place (length xs)) place (length xs) (λ far. grind (arith, nat_tests))

-- a slice up to the end is what is dropped to
pub rest_is : (xs : List ℕ) (k : ℕ) → take (length xs - k) (drop k xs) ≡ drop k xs
rest_is xs k = take_all (length xs - k) (drop k xs) (omega (arith, length-drop k xs))
