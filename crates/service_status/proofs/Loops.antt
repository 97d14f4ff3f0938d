-- What a loop has written, and what is left, are the whole.
use Rattle.std.proofs.Common.{◌≡◌, ℕ, suc, ◌-◌, ◌≤◌, ◌<◌, List, [], ◌∷◌, ◌++◌, take, drop, get_or, length, ap, ◌∙◌, arith}
use Rattle.std.proofs.Math.Seq.{take-length}

-- one more
pub one_written : {A : Type 0} (text : List A → List ℕ) (out now whole : List ℕ) (left : List A) (x : A) → 1 ≤ length left
    → x ≡ get_or left 0 x → ((rest : List A) → now ++ text rest ≡ out ++ text (x ∷ rest)) → out ++ text left ≡ whole
    → now ++ text (take (length left - 1) (drop 1 left)) ≡ whole
one_written text out now whole [] x some at is before = absurd (omega arith)
one_written {A} text out now whole (y ∷ left) x some at is before =
    let back : suc (length left) - 1 ≡ length left = omega arith in
    let rest : take (suc (length left) - 1) left ≡ left = ap (λ (n : ℕ). take n left) back ∙ take-length left in
    ap (λ (l : List A). now ++ text l) rest ∙ is left ∙ ap (λ (z : A). out ++ text (z ∷ left)) at ∙ before

-- none is left
pub none_left : {A : Type 0} (text : List A → List ℕ) (out whole : List ℕ) (left : List A) → length left < 1
    → out ++ text left ≡ whole → out ++ text [] ≡ whole
none_left text out whole [] none before = before
none_left text out whole (x ∷ left) none before = absurd (omega arith)
