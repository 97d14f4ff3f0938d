-- What a binary search finds in a list of mementos in order, and when every memento of a list is in another.
use Rattle.std.proofs.Common.{◌≡◌, ℕ, suc, ◌+◌, ◌<◌, Bool, true, false, ◌||◌, ◌&&◌, length, get_or, take, ◌++◌, subst}
use Rattle.std.proofs.Common.{List, [], ◌∷◌, Result, Ok, Err, is_ok, inl, inr, refl, sym, ap, ◌∙◌, arith}
use Rattle.std.specs.declared.cmp.Ordering.TheVariants.{Less, Equal, Greater}
use Rattle.std.specs.List.{list_any, list_all}
use Rattle.std.specs.List.Sorted.{IsStrictlySortedBy, IsSortedBy, IsSearchInRange, IsBinarySearchResult}
use Rattle.std.specs.Ordering.{eq_by_cmp, is_lt, is_eq, ordering_reverse}
use Rattle.std.specs.Cmp.{tied_itself, Equal-is, eq_by_cmp_equiv}
use Rattle.std.proofs.lemmas.Bool.{true≢false, cases_lt}
use Rattle.std.proofs.lemmas.List.Folds.{list_any_at}
use Rattle.std.proofs.lemmas.List.Sorted.{searchable_from_sorted}
use Rattle.std.proofs.lemmas.Map.Keys.{Less-from_sorted}
use Rattle.memento_time.specs.Mementos.{memento_cmp}
use Rattle.memento_time.proofs.MementoLemmas.{memento_cmp_total, memento_cmp_exact}
use Rattle.memento_time.specs.declared.mementos.Memento.{Memento}
use Rattle.memento_sets.specs.Sets as set
use Rattle.memento_sets.specs.MementoSets.{Mementos, IsSubset}
use Rattle.memento_sets.proofs.UnitedLemmas.{above_front_of}
use Rattle.std.specs.FinMap.{contains_key-keys}
use Rattle.memento_sets.proofs.Sets.{contains-from_list}

contains_is : (xs : List Memento) (m : Memento) → set.contains (set.from_list {R = memento_cmp} xs) m ≡ list_any (eq_by_cmp memento_cmp m) xs
contains_is = contains-from_list memento_cmp_total memento_cmp_exact

greater : (a b : Memento) → memento_cmp a b ≡ Less → memento_cmp b a ≡ Greater
greater a b h = memento_cmp_total.antisymm b a ∙ ap ordering_reverse h

pub less : (a b : Memento) → memento_cmp a b ≡ Greater → memento_cmp b a ≡ Less
less a b h = memento_cmp_total.antisymm b a ∙ ap ordering_reverse h

steps : (xs : List Memento) → IsStrictlySortedBy memento_cmp xs → IsSortedBy (λ a b. is_lt (memento_cmp a b)) xs
steps xs h k d le lt = ap is_lt (greater (get_or xs k d) (get_or xs (k + 1) d) (Less-from_sorted memento_cmp xs k (k + 1) d h (omega arith) lt))

none_at : (p : Memento → Bool) (xs : List Memento) → ((j : ℕ) (d : Memento) → j < length xs → p (get_or xs j d) ≡ false) → list_any p xs ≡ false
none_at p [] h = refl
none_at p (x ∷ xs) h = (λ i. h 0 x (omega arith) i || list_any p xs) ∙ none_at p xs (λ j d lt. h (suc j) d (omega arith))

pub search_is : (xs : List Memento) (m : Memento) (r : Result ℕ ℕ) → IsStrictlySortedBy memento_cmp xs → IsSearchInRange r (length xs)
    → IsBinarySearchResult (λ y. memento_cmp y m) xs r → is_ok r ≡ set.contains (set.from_list {R = memento_cmp} xs) m
search_is xs m (Ok at) h in_range here =
    sym (contains_is xs m ∙ list_any_at (eq_by_cmp memento_cmp m) xs at m in_range
    ((eq_by_cmp_equiv memento_cmp_total).symm m (get_or xs at m) ∙ ap is_eq (here m)))
search_is xs m (Err at) h in_range parted =
    let point = parted (searchable_from_sorted memento_cmp_total (λ x. x) xs m (steps xs h)) in
    sym (contains_is xs m ∙ none_at (eq_by_cmp memento_cmp m) xs (λ j d lt. elim (cases_lt j at) [
      | inl below ↦ ap is_eq (greater (get_or xs j d) m (point.0 j d (omega arith) below))
      | inr above ↦ ap is_eq (less (get_or xs j d) m (point.1 j d above lt))
    ]))

-- ---- one list within another

all_any : (p : Memento → Bool) (xs : List Memento) → list_all p xs ≡ true → (m : Memento) → list_any (eq_by_cmp memento_cmp m) xs ≡ true → p m ≡ true
all_any p [] all m any = absurd (true≢false (sym any))
all_any p (x ∷ xs) all m any =
    elim (p x) as (λ b. p x ≡ b → (b && list_all p xs) ≡ true → p m ≡ true) [
      | true ↦ λ first rest. elim (eq_by_cmp memento_cmp m x) as (λ b. eq_by_cmp memento_cmp m x ≡ b
          → (b || list_any (eq_by_cmp memento_cmp m) xs) ≡ true → p m ≡ true) [
            | true ↦ λ t _. ap p (memento_cmp_exact m x ((Equal-is (memento_cmp m x)).0 t)) ∙ first
            | false ↦ λ _ more. all_any p xs rest m more
          ] refl any
      | false ↦ λ _ none. absurd (true≢false (sym none))
    ] refl all

all_from : (p : Memento → Bool) (xs : List Memento) → ((m : Memento) → list_any (eq_by_cmp memento_cmp m) xs ≡ true → p m ≡ true) → list_all p xs ≡ true
all_from p [] h = refl
all_from p (x ∷ xs) h =
    (λ i. h x (ap (λ o. is_eq o || list_any (eq_by_cmp memento_cmp x) xs) (tied_itself memento_cmp_total x)) i && list_all p xs)
    ∙ all_from p xs (λ m any. h m (elim (eq_by_cmp memento_cmp m x) as
    (λ b. (b || list_any (eq_by_cmp memento_cmp m) xs) ≡ true) [ true ↦ refl | false ↦ any ]))

pub subset_from_all : (s t : Mementos) → list_all (λ m. set.contains t m) (set.items s) ≡ true → IsSubset s t
subset_from_all s t all m had = all_any (λ m. set.contains t m) (set.items s) all m (sym (contains_key-keys s m) ∙ had)

pub all_from_subset : (s t : Mementos) → IsSubset s t → list_all (λ m. set.contains t m) (set.items s) ≡ true
all_from_subset s t sub = all_from (λ m. set.contains t m) (set.items s) (λ m any. sub m (contains_key-keys s m ∙ any))

-- ---- what is below a memento

-- what stands in front of the place where it is
pub front_of_found : (xs : List Memento) (m : Memento) (at : ℕ) → IsStrictlySortedBy memento_cmp xs → at < length xs
    → ((d : Memento) → memento_cmp (get_or xs at d) m ≡ Equal) → IsStrictlySortedBy memento_cmp (take at xs ++ m ∷ [])
front_of_found xs m at h in_range here = above_front_of xs at m h (λ k d lt _.
    subst (λ n. memento_cmp (get_or xs k d) n ≡ Less) (memento_cmp_exact (get_or xs at d) m (here d)) (Less-from_sorted memento_cmp xs k at d h lt in_range))

-- what stands in front of the place where it would go
pub front_of_gap : (xs : List Memento) (m : Memento) (at : ℕ) → IsStrictlySortedBy memento_cmp xs
    → IsBinarySearchResult (λ y. memento_cmp y m) xs (Err at) → IsStrictlySortedBy memento_cmp (take at xs ++ m ∷ [])
front_of_gap xs m at h parted =
    let point = parted (searchable_from_sorted memento_cmp_total (λ x. x) xs m (steps xs h)) in
    above_front_of xs at m h (λ k d lt in_range. point.0 k d (omega arith) lt)
