-- Lists of mementos in order, part by part.
use Rattle.std.proofs.Common.{◌≡◌, ℕ, zero, suc, ◌<◌, Bool, true, false, ◌||◌, ◌++◌, List, [], ◌∷◌, Some, length}
use Rattle.std.proofs.Common.{get_or, take, reverse, refl, sym, ap, subst, ◌∙◌, arith, append_assoc}
use Rattle.std.specs.declared.cmp.Ordering.TheVariants.{Less}
use Rattle.std.specs.List.{list_any, AllByRecursion, slice_get}
use Rattle.std.proofs.lemmas.Option.{none-some, same_Some}
use Rattle.std.specs.List.Sorted.{IsStrictlySortedBy}
use Rattle.std.specs.Ordering.{eq_by_cmp}
use Rattle.std.proofs.lemmas.List.{reverse-append}
use Rattle.std.proofs.lemmas.List.Folds.{list_any-append}
use Rattle.memento_time.specs.Mementos.{memento_cmp}
use Rattle.memento_time.proofs.MementoLemmas.{memento_cmp_total, memento_cmp_exact}
use Rattle.memento_time.specs.declared.mementos.Memento.{Memento}
use Rattle.memento_sets.specs.Sets as set
use Rattle.memento_sets.proofs.Sets.{contains-from_list, contains-union, same_set}

abbrev AreAbove : Memento → List Memento → Type 0
AreAbove m xs = AllByRecursion (λ x. memento_cmp m x ≡ Less) xs

above_front : (m : Memento) (xs ys : List Memento) → AreAbove m (xs ++ ys) → AreAbove m xs
above_front m [] ys h = tt
above_front m (x ∷ xs) ys h = (h.0, above_front m xs ys h.1)

above_last : (m : Memento) (xs : List Memento) (n : Memento) → AreAbove m (xs ++ n ∷ []) → memento_cmp m n ≡ Less
above_last m [] n h = h.0
above_last m (x ∷ xs) n h = above_last m xs n h.1

above_all : (m n : Memento) (ys : List Memento) → memento_cmp m n ≡ Less → AreAbove n ys → AreAbove m ys
above_all m n [] lt h = tt
above_all m n (y ∷ ys) lt h = (memento_cmp_total.trans m n y lt h.0, above_all m n ys lt h.1)

above_both : (m : Memento) (xs ys : List Memento) → AreAbove m xs → AreAbove m ys → AreAbove m (xs ++ ys)
above_both m [] ys h g = g
above_both m (x ∷ xs) ys h g = (h.0, above_both m xs ys h.1 g)

pub nothing_in_order : IsStrictlySortedBy memento_cmp []
unfolding IsStrictlySortedBy
nothing_in_order = tt

-- the front of a list in order is in order
pub front_in_order : (xs ys : List Memento) → IsStrictlySortedBy memento_cmp (xs ++ ys) → IsStrictlySortedBy memento_cmp xs
unfolding IsStrictlySortedBy
front_in_order [] ys h = tt
front_in_order (x ∷ xs) ys h = (above_front x xs ys h.0, front_in_order xs ys h.1)

-- and so is the back
pub back_in_order : (xs ys : List Memento) → IsStrictlySortedBy memento_cmp (xs ++ ys) → IsStrictlySortedBy memento_cmp ys
unfolding IsStrictlySortedBy
back_in_order [] ys h = h
back_in_order (x ∷ xs) ys h = back_in_order xs ys h.1

-- two lists in order, the one up to a memento and the other from it on
pub chained : (xs : List Memento) (m : Memento) (ys : List Memento) → IsStrictlySortedBy memento_cmp (xs ++ m ∷ [])
    → IsStrictlySortedBy memento_cmp (m ∷ ys) → IsStrictlySortedBy memento_cmp (xs ++ m ∷ ys)
unfolding IsStrictlySortedBy
chained [] m ys h g = g
chained (x ∷ xs) m ys h g =
    let lt = above_last x xs m h.0 in
    (above_both x xs (m ∷ ys) (above_front x xs (m ∷ []) h.0) (lt, above_all x m ys lt g.0), chained xs m ys h.1 g)

pub up_to : (xs : List Memento) (m : Memento) (ys : List Memento) → IsStrictlySortedBy memento_cmp (xs ++ m ∷ ys)
    → IsStrictlySortedBy memento_cmp (xs ++ m ∷ [])
up_to xs m ys h = front_in_order (xs ++ m ∷ []) ys (subst (IsStrictlySortedBy memento_cmp) (sym (append_assoc xs (m ∷ []) ys)) h)

pub pair_in_order : (m n : Memento) → memento_cmp m n ≡ Less → IsStrictlySortedBy memento_cmp (m ∷ n ∷ [])
unfolding IsStrictlySortedBy
pair_in_order m n lt = ((lt, tt), (tt, tt))

-- a lesser memento in front
pub lesser_first : (m n : Memento) (ys : List Memento) → memento_cmp m n ≡ Less
    → IsStrictlySortedBy memento_cmp (n ∷ ys) → IsStrictlySortedBy memento_cmp (m ∷ n ∷ ys)
unfolding IsStrictlySortedBy
lesser_first m n ys lt h = ((lt, above_all m n ys lt h.0), h)

-- what begins with a memento stands behind a front below it
pub added_behind : (front added : List Memento) (m : Memento) → slice_get added 0 ≡ Some m → IsStrictlySortedBy memento_cmp (front ++ m ∷ [])
    → IsStrictlySortedBy memento_cmp added → IsStrictlySortedBy memento_cmp (front ++ added)
added_behind front [] m first below h = absurd (none-some m first)
added_behind front (n ∷ added) m first below h =
    chained front n added (subst (λ k. IsStrictlySortedBy memento_cmp (front ++ k ∷ [])) (sym (same_Some n m first))
    below) h

-- a memento above those of a front
pub above_front_of : (xs : List Memento) (at : ℕ) (m : Memento) → IsStrictlySortedBy memento_cmp xs
    → ((k : ℕ) (d : Memento) → k < at → k < length xs → memento_cmp (get_or xs k d) m ≡ Less) → IsStrictlySortedBy memento_cmp (take at xs ++ m ∷ [])
unfolding IsStrictlySortedBy
above_front_of xs zero m h below = (tt, tt)
above_front_of [] (suc at) m h below = (tt, tt)
above_front_of (x ∷ xs) (suc at) m h below = (
  above_both x (take at xs) (m ∷ []) (above_take x xs at h.0) (below 0 x (omega arith) (omega arith), tt),
  above_front_of xs at m h.1 (λ k d lt in_range. below (suc k) d (omega arith) (omega arith)),
)
  where
    above_take : (x : Memento) (xs : List Memento) (at : ℕ) → AreAbove x xs → AreAbove x (take at xs)
    above_take x xs zero h = tt
    above_take x [] (suc at) h = tt
    above_take x (y ∷ ys) (suc at) h = (h.0, above_take x ys at h.1)

-- what comes off the end of a lifted list comes next
pub next_first : (xs : List Memento) (m : Memento) (lifted : List Memento) → lifted ≡ xs ++ m ∷ [] → reverse lifted ≡ m ∷ reverse xs
next_first xs m lifted is = ap (λ (ys : List Memento). reverse ys) is ∙ reverse-append xs (m ∷ [])

pub reverse_twice : (xs : List Memento) → reverse (reverse xs) ≡ xs
reverse_twice [] = refl
reverse_twice (x ∷ xs) = ap (λ (ys : List Memento). reverse ys) (reverse-append (x ∷ []) xs)
    ∙ (reverse-append (reverse xs) (x ∷ []) ∙ ap (λ (ys : List Memento). x ∷ ys) (reverse_twice xs))

-- ---- members

or_turned : (a b c : Bool) → (a || (b || c)) ≡ (b || (a || c))
or_turned true true c = refl
or_turned true false c = refl
or_turned false b c = refl

-- a memento in the middle
pub any_middle : (p : Memento → Bool) (xs : List Memento) (m : Memento) (ys : List Memento) → list_any p (xs ++ m ∷ ys) ≡ (p m || list_any p (xs ++ ys))
any_middle p xs m ys =
    list_any-append p xs (m ∷ ys) ∙ (or_turned (list_any p xs) (p m) (list_any p ys) ∙ ap (λ b. p m || b) (sym (list_any-append p xs ys)))

or_twice : (a b : Bool) → (a || (a || b)) ≡ (a || b)
or_twice true b = refl
or_twice false b = refl

pub any_again : (p : Memento → Bool) (xs : List Memento) (m : Memento) (ys : List Memento) → list_any p (xs ++ m ∷ ys) ≡ (p m || list_any p (xs ++ m ∷ ys))
any_again p xs m ys = any_middle p xs m ys ∙ (sym (or_twice (p m) (list_any p (xs ++ ys))) ∙ ap (λ b. p m || b) (sym (any_middle p xs m ys)))

or_next : (a b c : Bool) → ((a || b) || c) ≡ (b || (a || c))
or_next true true c = refl
or_next true false c = refl
or_next false b c = refl

-- what comes next is counted once
pub any_next : (p : Memento → Bool) (m : Memento) (now was : Bool) (rest : List Memento) → now ≡ (p m || was)
    → (now || list_any p rest) ≡ (was || list_any p (m ∷ rest))
any_next p m now was rest is = ap (λ b. b || list_any p rest) is ∙ or_next (p m) was (list_any p rest)

pub or_false : (a : Bool) → (a || false) ≡ a
or_false true = refl
or_false false = refl

pub any_none : (p : Memento → Bool) (b : Bool) (rest : List Memento) → rest ≡ [] → (b || list_any p rest) ≡ b
any_none p b rest none = ap (λ (xs : List Memento). b || list_any p xs) none ∙ or_false b

-- lists with the members of two are the union of their sets
pub united_is : (new old added : List Memento) → ((m : Memento)
    → list_any (eq_by_cmp memento_cmp m) new ≡ (list_any (eq_by_cmp memento_cmp m) old || list_any (eq_by_cmp memento_cmp m) added))
    → set.from_list {R = memento_cmp} new ≡ set.union (set.from_list old) (set.from_list added)
united_is new old added members = same_set memento_cmp_total memento_cmp_exact _ _ (λ m.
    contains-from_list memento_cmp_total memento_cmp_exact new m
    ∙ (members m
    ∙ ((λ i. sym (contains-from_list memento_cmp_total memento_cmp_exact old m) i || sym (contains-from_list memento_cmp_total memento_cmp_exact added m) i)
    ∙ sym (contains-union memento_cmp_total memento_cmp_exact (set.from_list old) (set.from_list added) m))))
