-- The least of numbers.
use Rattle.std.proofs.Common.{◌≡◌, ◌⊎◌, ⊎_elim, inl, inr, ℕ, ◌<◌, ◌≤◌, List, [], ◌∷◌, All, Contains, IfSome, IsNone, Option, min, refl, sym, subst, ◌∙◌, arith, rules}
use Rattle.std.specs.List.{fold, reduce}
use Rattle.std.proofs.lemmas.List.Elements.{All-nil, All-cons, Contains-append_right}
use Rattle.std.proofs.lemmas.Bool.{true≢false}
use Rattle.harvest_schedule.proofs.Counts.{less_or_not}

least_bounds : (a : ℕ) (xs : List ℕ) → (fold min a xs ≤ a) × All (λ x. fold min a xs ≤ x) xs
least_bounds a [] = (omega arith, All-nil (λ y. a ≤ y))
least_bounds a (x ∷ xs) =
    let h = least_bounds (min a x) xs in
    let low : fold min (min a x) xs ≤ min a x = h.0 in
    (omega (arith, low), All-cons (λ y. fold min (min a x) xs ≤ y) x xs (omega (arith, low)) h.1)

min_is : (a x : ℕ) → (min a x ≡ a) ⊎ (min a x ≡ x)
min_is a x = ⊎_elim (λ (lt : a < x). inl (omega (arith, lt))) (λ (le : x ≤ a). inr (omega (arith, le))) (less_or_not a x)

least_reached : (a : ℕ) (xs : List ℕ) (r : ℕ) → r ≡ fold min a xs → (r ≡ a) ⊎ Contains xs r
least_reached a [] r e = inl e
least_reached a (x ∷ xs) r e =
    ⊎_elim
    (λ (p : r ≡ min a x).
    ⊎_elim (λ (q : min a x ≡ a). inl (p ∙ q)) (λ (q : min a x ≡ x). inr (0, omega arith, sym (p ∙ q))) (min_is a x))
    (λ (h : Contains xs r). inr (Contains-append_right (x ∷ []) xs r h))
    (least_reached (min a x) xs r e)

cons_isnt_nil : (x : ℕ) (xs : List ℕ) → x ∷ xs ≡ [] → ⊥
cons_isnt_nil x xs e = cc

none_by : (xs : List ℕ) → (IsNone (reduce min xs) → xs ≡ []) × (xs ≡ [] → IsNone (reduce min xs))
none_by [] = (λ _. refl, λ _. refl)
none_by (x ∷ xs) = (λ e. absurd (true≢false e), λ e. absurd (cons_isnt_nil x xs e))

-- there is no least number where there is none
pub least_of_none : (xs : List ℕ) (r : Option ℕ) → r ≡ reduce min xs → (IsNone r → xs ≡ []) × (xs ≡ [] → IsNone r)
least_of_none xs r e = subst (λ o. (IsNone o → xs ≡ []) × (xs ≡ [] → IsNone o)) (sym e) (none_by xs)

within_by : (xs : List ℕ) → IfSome (reduce min xs) (Contains xs)
within_by [] = search rules
within_by (x ∷ xs) =
    ⊎_elim (λ (e : fold min x xs ≡ x). (0, omega arith, sym e))
    (λ (h : Contains xs (fold min x xs)). Contains-append_right (x ∷ []) xs (fold min x xs) h) (least_reached x xs (fold min x xs) refl)

-- the least number is one of them
pub least_within : (xs : List ℕ) (r : Option ℕ) → r ≡ reduce min xs → IfSome r (Contains xs)
least_within xs r e = subst (λ o. IfSome o (Contains xs)) (sym e) (within_by xs)

first_by : (xs : List ℕ) → IfSome (reduce min xs) (λ r. All (λ x. r ≤ x) xs)
first_by [] = search rules
first_by (x ∷ xs) = let h = least_bounds x xs in All-cons (λ y. fold min x xs ≤ y) x xs h.0 h.1

-- it is the least
pub least_first : (xs : List ℕ) (r : Option ℕ) → r ≡ reduce min xs → IfSome r (λ r. All (λ x. r ≤ x) xs)
least_first xs r e = subst (λ o. IfSome o (λ r. All (λ x. r ≤ x) xs)) (sym e) (first_by xs)
