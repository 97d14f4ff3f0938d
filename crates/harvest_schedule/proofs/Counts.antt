-- How often an original stands among jobs.
use Rattle.std.proofs.Common.{◌≡◌, ◌⊎◌, ⊎_elim, inl, inr, ℕ, ◌+◌, ◌<◌, ◌≤◌, ◌==◌, Bool, true, false, cond}
use Rattle.std.proofs.Common.{nat_lt, List, [], ◌∷◌, ◌++◌, length, get_or, Contains, Some, None, position, sym, ap, subst, arith}
use Rattle.std.specs.List.{position_or_len, remove}
use Rattle.std.proofs.lemmas.Bool.{cases_Bool}
use Rattle.std.proofs.lemmas.Bool.Decides.{nat_tests}
use Rattle.std.proofs.lemmas.List.Edits.{length-remove}
use Rattle.std.proofs.lemmas.List.Sums.{sum_by-cons, sum_by_push, sum_by-remove, fails_before_first, passes_at_first}
use Rattle.std.proofs.lemmas.Option.{same_Some, none-some}
use Rattle.harvest_schedule.specs.Lanes.{without}
use Rattle.harvest_schedule.specs.Runs.{count_of, one_if}

pub less_or_not : (a b : ℕ) → (a < b) ⊎ (b ≤ a)
less_or_not a b =
    ⊎_elim (λ (e : nat_lt a b ≡ true). inl (grind (arith, nat_tests, e))) (λ (e : nat_lt a b ≡ false). inr (grind (arith, nat_tests, e)))
    (cases_Bool (nat_lt a b))

pub count_cons : (k x : ℕ) (xs : List ℕ) → count_of k (x ∷ xs) ≡ one_if (x == k) + count_of k xs
count_cons k x xs = sum_by-cons (λ y. cond (y == k) 1 0) x xs

pub count_push : (k x : ℕ) (xs : List ℕ) → count_of k (xs ++ x ∷ []) ≡ count_of k xs + one_if (x == k)
count_push k x xs = sum_by_push (λ y. cond (y == k) 1 0) xs x

equal_of : (a b : ℕ) → (a == b) ≡ true → a ≡ b
equal_of a b e = grind (arith, nat_tests, e)

unequal_of : (a b : ℕ) → (a == b) ≡ false → a ≡ b → ⊥
unequal_of a b e same = grind (arith, nat_tests, e, same)

-- where an original stands among others, it has a first place
pub place_within : (o : ℕ) (xs : List ℕ) → Contains xs o → position_or_len (λ x. x == o) xs < length xs
place_within o xs has =
    ⊎_elim (λ (lt : position_or_len (λ x. x == o) xs < length xs). lt)
    (λ (ge : length xs ≤ position_or_len (λ x. x == o) xs).
    let before : has.0 < position_or_len (λ x. x == o) xs = (let w = has.1 in omega (arith, ge, w)) in
    absurd (unequal_of (get_or xs has.0 o) o (fails_before_first (λ x. x == o) xs has.0 o before) has.2))
    (less_or_not (position_or_len (λ x. x == o) xs) (length xs))

pub count_without : (k o : ℕ) (xs : List ℕ) → Contains xs o → count_of k (without o xs) + one_if (o == k) ≡ count_of k xs
count_without k o xs has =
    let place = position_or_len (λ x. x == o) xs in
    let within : place < length xs = place_within o xs has in
    let is : get_or xs place o ≡ o = equal_of (get_or xs place o) o (passes_at_first (λ x. x == o) xs o within) in
    subst (λ v. count_of k (without o xs) + one_if (v == k) ≡ count_of k xs) is
    (sum_by-remove (λ y. cond (y == k) 1 0) xs place o within)

pub length_without : (o : ℕ) (xs : List ℕ) → Contains xs o → length (without o xs) + 1 ≡ length xs
length_without o xs has = length-remove xs (position_or_len (λ x. x == o) xs) (place_within o xs has)

-- one where a number is below another, and else none
abbrev pub below : ℕ → ℕ → ℕ
below k n = one_if (nat_lt k n)

pub below_yes : (k n : ℕ) → k < n → below k n ≡ 1
below_yes k n lt = grind (arith, nat_tests, lt)

pub below_no : (k n : ℕ) → n ≤ k → below k n ≡ 0
below_no k n le = grind (arith, nat_tests, le)

pub below_next : (k n : ℕ) → below k (n + 1) ≡ below k n + one_if (n == k)
below_next k n = grind (arith, nat_tests)

pub one_if_le : (b : Bool) → one_if b ≤ 1
one_if_le true = omega arith
one_if_le false = omega arith

place_by : (b : Bool) (place i : ℕ) → cond b (Some place) None ≡ Some i → i ≡ place
place_by true place i e = same_Some i place (sym e)
place_by false place i e = absurd (none-some i e)

-- what is removed at the first place of an original
pub taken_out : (o i : ℕ) (xs : List ℕ) → Some i ≡ position (λ x. x == o) xs → remove xs i ≡ without o xs
taken_out o i xs e =
    ap (remove xs) (place_by (nat_lt (position_or_len (λ x. x == o) xs) (length xs)) (position_or_len (λ x. x == o) xs) i (sym e))

nowhere_by : (b : Bool) (place : ℕ) → b ≡ true → None ≡ cond b (Some place) None → ⊥
nowhere_by true place is e = none-some place e
nowhere_by false place is e = (let c : false ≡ true = is in cc)

-- an original that stands among others has a place
pub not_taken_out : (o : ℕ) (xs : List ℕ) → None ≡ position (λ x. x == o) xs → Contains xs o → ⊥
not_taken_out o xs e has =
    let within = place_within o xs has in
    nowhere_by (nat_lt (position_or_len (λ x. x == o) xs) (length xs)) (position_or_len (λ x. x == o) xs) (grind (arith, nat_tests, within)) e
