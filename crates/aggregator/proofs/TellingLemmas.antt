-- Lines, one after the other.
use Rattle.std.proofs.Common.{◌≡◌, ℕ, ◌+◌, ◌<◌, List, [], ◌∷◌, ◌++◌, length, get_or, take, sym, ap, ◌∙◌, append_assoc, append-nil}
use Rattle.std.proofs.lemmas.Grind.{flat_map-append}
use Rattle.std.proofs.lemmas.List.{take_more}
use Rattle.std.specs.List.{flat_map}

-- with one line more its text follows
pub one_more : {X : Type 0} (f : X → List ℕ) (xs : List X) (i : ℕ) (x : X) → i < length xs → x ≡ get_or xs i x
    → flat_map f (take i xs) ++ f x ≡ flat_map f (take (i + 1) xs)
one_more f xs i x h is =
    let before = flat_map f (take i xs) in
    sym (ap (flat_map f) (take_more xs i x h)
    ∙ (flat_map-append f (take i xs) (get_or xs i x ∷ [])
    ∙ (ap (λ t. before ++ t) (append-nil (f (get_or xs i x))) ∙ ap (λ y. before ++ f y) (sym is))))

pub three_behind : (a b c d : List ℕ) → ((a ++ b) ++ c) ++ d ≡ a ++ (b ++ c ++ d)
three_behind a b c d = simp append_assoc
