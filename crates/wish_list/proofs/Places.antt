-- Elements of lists by their places.
use Rattle.std.proofs.Common.{◌≡◌, ◌<◌, ℕ, zero, suc, Bool, true, List, [], ◌∷◌, ◌++◌, length, map, take, drop, set, get_or, sym, ap, ◌∙◌, arith}
use Rattle.std.specs.Prelude.{Some, position, slice_get}
use Rattle.std.proofs.lemmas.List.Quantifiers.{position-Some}

module _ {X : Type 0} where
  -- what is read at a place within a list stands there
  pub there : (xs : List X) (k : ℕ) (x : X) → k < length xs → x ≡ get_or xs k x → slice_get xs k ≡ Some x
  there [] k x small is = absurd (omega (arith, small))
  there (y ∷ ys) zero x small is = ap (λ (z : X). Some z) (sym is)
  there (y ∷ ys) (suc k) x small is = there ys k x (omega (arith, small)) is

  -- the first that passes is within the list, and passes
  pub passes : (p : X → Bool) (xs : List X) (k : ℕ) (x : X) → position p xs ≡ Some k → x ≡ get_or xs k x → (k < length xs) × (p x ≡ true) × (slice_get xs k ≡ Some x)
  passes p xs k x first is =
      let all = position-Some p xs k x first in
      (all.0, ap p is ∙ all.1, there xs k x all.0 is)

-- one more is mapped in place
pub mapped_more : {X : Type 0} (f : X → X) (xs : List X) (i : ℕ) (x d : X) → i < length xs → x ≡ f (get_or (map f (take i xs) ++ drop i xs) i d)
    → set (map f (take i xs) ++ drop i xs) i x ≡ map f (take (suc i) xs) ++ drop (suc i) xs
mapped_more f [] i x d small is = absurd (omega (arith, small))
mapped_more f (y ∷ ys) zero x d small is = ap (λ z. z ∷ ys) is
mapped_more f (y ∷ ys) (suc i) x d small is = ap (λ zs. f y ∷ zs) (mapped_more f ys i x d (omega (arith, small)) is)
