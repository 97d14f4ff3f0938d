-- Sorted lists of mementos, and the sets that they are.
use Rattle.std.proofs.Common.{◌≡◌, ◌↔◌, Bool, true, false, cond, ◌||◌, ◌++◌, List, Contains, [], ◌∷◌, refl, sym, ap, subst, ◌∙◌}
use Rattle.std.specs.Prelude.{T}
use Rattle.std.specs.declared.cmp.Ordering.TheVariants.{Less}
use Rattle.std.specs.List.{list_any, dedup, dedup_from, AllByRecursion}
use Rattle.std.specs.List.Sorted.{IsStrictlySortedBy, IsPermutation}
use Rattle.std.specs.Ordering.{eq_by_cmp, is_lt}
use Rattle.std.specs.Cmp.{eq_by_cmp_equiv, Equal-is, both_ways}
use Rattle.std.specs.FinMap.{is_sorted}
use Rattle.std.specs.FinMap.Entries.{below_all}
use Rattle.std.proofs.lemmas.List.Folds.{list_any-append}
use Rattle.std.proofs.lemmas.List.Sorted.{list_any-IsPermutation}
use Rattle.std.proofs.lemmas.Map.Views.{Contains-from_any, list_any-from_Contains}
use Rattle.memento_time.specs.Mementos.{memento_cmp}
use Rattle.memento_time.proofs.MementoLemmas.{memento_cmp_total, memento_cmp_exact}
use Rattle.memento_time.specs.declared.mementos.Memento.{Memento}
use Rattle.memento_sets.specs.Sets as set
use Rattle.memento_sets.proofs.Sets.{contains-from_list, contains-union, same_set, items-from_list, both_parts}

below_marked : (x : Memento) (xs : List Memento) → AllByRecursion (λ y. memento_cmp x y ≡ Less) xs → T (below_all memento_cmp x (set.as_keys xs))
below_marked x [] h = tt
below_marked x (y ∷ xs) h = both_parts (is_lt (memento_cmp x y)) (below_all memento_cmp x (set.as_keys xs))
    (subst (λ r. T (is_lt r)) (sym h.0) tt) (below_marked x xs h.1)

pub sorted_marked : (xs : List Memento) → IsStrictlySortedBy memento_cmp xs → T (is_sorted memento_cmp (set.as_keys xs))
unfolding IsStrictlySortedBy
sorted_marked [] h = tt
sorted_marked (x ∷ xs) h = both_parts (below_all memento_cmp x (set.as_keys xs))
    (is_sorted memento_cmp (set.as_keys xs)) (below_marked x xs h.0) (sorted_marked xs h.1)

-- a list in order, each memento once, is the list of its set
pub items_in_order : (xs : List Memento) → IsStrictlySortedBy memento_cmp xs → set.items (set.from_list {R = memento_cmp} xs) ≡ xs
items_in_order xs h = items-from_list memento_cmp_total memento_cmp_exact xs (sorted_marked xs h)

module _ (E : Memento → Memento → Bool) (ties : (x y : Memento) → E x y ≡ eq_by_cmp memento_cmp x y) where
  any_dedup_from : (p : Memento → Bool) (k : Memento) (xs : List Memento) → list_any p (dedup_from E k xs) ≡ (p k || list_any p xs)
  any_dedup_from p k [] = refl
  any_dedup_from p k (x ∷ xs) =
      elim (E x k) as (λ b. E x k ≡ b → list_any p (cond b (dedup_from E k xs) (k ∷ dedup_from E x xs)) ≡ (p k || (p x || list_any p xs))) [
        | true ↦ λ t. any_dedup_from p k xs
            ∙ twice (p k) (p x) (list_any p xs)
            (ap p (memento_cmp_exact x k ((Equal-is (memento_cmp x k)).0 (sym (ties x k) ∙ t))))
        | false ↦ λ _. ap (λ b. p k || b) (any_dedup_from p x xs)
      ] refl
    where
      twice : (a b c : Bool) → b ≡ a → (a || c) ≡ (a || (b || c))
      twice true b c e = refl
      twice false b c e = ap (λ t. t || c) (sym e)

  any_dedup : (p : Memento → Bool) (xs : List Memento) → list_any p (dedup E xs) ≡ list_any p xs
  any_dedup p [] = refl
  any_dedup p (x ∷ xs) = any_dedup_from p x xs

  -- sorting and dropping repeats keeps the set
  pub set_in_order : (xs ys : List Memento) → IsPermutation xs ys → set.from_list {R = memento_cmp} (dedup E ys) ≡ set.from_list xs
  set_in_order xs ys moved = same_set memento_cmp_total memento_cmp_exact _ _ (λ m.
      contains-from_list memento_cmp_total memento_cmp_exact (dedup E ys) m
      ∙ (any_dedup (eq_by_cmp memento_cmp m) ys
      ∙ (sym (list_any-IsPermutation (eq_by_cmp memento_cmp m) xs ys moved)
      ∙ sym (contains-from_list memento_cmp_total memento_cmp_exact xs m))))

-- lists with the same members are one set
pub set_of_members : (xs ys : List Memento) → ((m : Memento) → Contains xs m ↔ Contains ys m)
    → set.from_list {R = memento_cmp} xs ≡ set.from_list ys
set_of_members xs ys same = same_set memento_cmp_total memento_cmp_exact _ _ (λ m.
    contains-from_list memento_cmp_total memento_cmp_exact xs m
    ∙ (both_ways _ _ (λ h. has ys m ((same m).0 (member xs m h))) (λ h. has xs m ((same m).1 (member ys m h)))
    ∙ sym (contains-from_list memento_cmp_total memento_cmp_exact ys m)))
  where
    member : (list : List Memento) (m : Memento) → list_any (eq_by_cmp memento_cmp m) list ≡ true → Contains list m
    member list m h = Contains-from_any (λ x y t. memento_cmp_exact x y ((Equal-is (memento_cmp x y)).0 t)) m list h

    has : (list : List Memento) (m : Memento) → Contains list m → list_any (eq_by_cmp memento_cmp m) list ≡ true
    has list m h = list_any-from_Contains (eq_by_cmp_equiv memento_cmp_total) m list h

pub set-append : (xs ys : List Memento) → set.from_list {R = memento_cmp} (xs ++ ys) ≡ set.union (set.from_list xs) (set.from_list ys)
set-append xs ys = same_set memento_cmp_total memento_cmp_exact _ _ (λ m.
    contains-from_list memento_cmp_total memento_cmp_exact (xs ++ ys) m
    ∙ (list_any-append (eq_by_cmp memento_cmp m) xs ys
    ∙ ((λ i. sym (contains-from_list memento_cmp_total memento_cmp_exact xs m) i || sym (contains-from_list memento_cmp_total memento_cmp_exact ys m) i)
    ∙ sym (contains-union memento_cmp_total memento_cmp_exact (set.from_list xs) (set.from_list ys) m))))
