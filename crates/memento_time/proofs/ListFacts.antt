-- What a list with a first element contains.
use Rattle.std.proofs.Common.{◌≡◌, ◌⊎◌, List, [], ◌∷◌, Contains, inl, inr, ⊎_elim, arith}
use Rattle.std.proofs.lemmas.List.Elements.{Contains-append_left, Contains-append_right, Contains-push, Contains-push_cases, Contains-append_cases}

pub no_element : {X : Type 0} (x : X) → Contains [] x → ⊥
no_element x (k, below, at) = omega (arith, below)

pub first_element : {X : Type 0} (x : X) (xs : List X) → Contains (x ∷ xs) x
first_element x xs = Contains-append_left (x ∷ []) xs x (Contains-push [] x)

pub later_element : {X : Type 0} (y : X) (xs : List X) (x : X) → Contains xs x → Contains (y ∷ xs) x
later_element y xs x c = Contains-append_right (y ∷ []) xs x c

pub first_or_later : {X : Type 0} (y : X) (xs : List X) (x : X) → Contains (y ∷ xs) x → (y ≡ x) ⊎ Contains xs x
first_or_later y xs x c = ⊎_elim (λ one. ⊎_elim (λ none. absurd (no_element x none)) inl (Contains-push_cases [] y x one)) inr (Contains-append_cases (y ∷ []) xs x c)
