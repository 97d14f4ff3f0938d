-- Lists to which one element is added.
use Rattle.std.proofs.Common.{◌≡◌, All, List, [], ◌∷◌, ◌++◌, ap, map, ◌∙◌}
use Rattle.std.proofs.lemmas.List.{map-append}
use Rattle.std.proofs.lemmas.List.Elements.{All-append, All-cons, All-nil}

pub pushed_map : {A B : Type 0} (f : A → B) (xs : List A) (x : A) (ys : List B) (y : B) → map f xs ≡ ys → f x ≡ y
    → map f (xs ++ x ∷ []) ≡ ys ++ y ∷ []
pushed_map f xs x ys y before this =
    map-append f xs (x ∷ []) ∙ (ap (λ w. w ++ f x ∷ []) before ∙ ap (λ w. ys ++ w ∷ []) this)

pub pushed_all : {A : Type 0} (P : A → Type 0) (xs : List A) (x : A) → All P xs → P x → All P (xs ++ x ∷ [])
pushed_all P xs x before this = All-append P xs (x ∷ []) before (All-cons P x [] this (All-nil P))
