-- Membership in sets, and the one sorted list of a set.
use Rattle.std.proofs.Common.{◌≡◌, Bool, true, false, cond, ◌&&◌, ◌||◌, map, List, [], ◌∷◌, Option, Some, None, is_some, refl, sym, ap, ◌∙◌}
use Rattle.std.specs.Prelude.{T}
use Rattle.std.specs.declared.cmp.Ordering.{Ordering}
use Rattle.std.specs.declared.cmp.Ordering.TheVariants.{Less, Equal, Greater}
use Rattle.std.specs.FinMap.Entries.{below_all}
use Rattle.std.specs.List.Sorted.{IsStrictlySortedBy}
use Rattle.std.specs.List.{list_any, AllByRecursion}
use Rattle.std.specs.Ordering.{eq_by_cmp, is_lt}
use Rattle.std.specs.Cmp.{IsTotalOrder}
use Rattle.std.specs.FinMap.{IsAntisymmetric, get, entries, find, from_entries, from_sorted, is_sorted, entries_sorted, get-empty, get-from_entries}
use Rattle.std.specs.FinMap.{get-from_sorted, entries-from_sorted, contains_key-keys, same_map}
use Rattle.memento_sets.specs.Sets.{Set, empty, contains, from_list, union, items, as_keys}
use Rattle.memento_sets.specs.Maps.{join_values}
use Rattle.memento_sets.proofs.Semilattice.{IsSemilattice}
use Rattle.memento_sets.proofs.Maps.{get-join_by}

pub contains-empty : {K : Type 0} (R : K → K → Ordering) (x : K) → contains (empty {R = R}) x ≡ false
contains-empty R x = ap is_some (get-empty R x)

is_some-join : (a b : Option (Unit {0})) → is_some (join_values (λ _ _. tt) a b) ≡ (is_some a || is_some b)
is_some-join None b = refl
is_some-join (Some a) None = refl
is_some-join (Some a) (Some b) = refl

units : (a b : Option (Unit {0})) → is_some a ≡ is_some b → a ≡ b
units None None e = refl
units None (Some b) e = cc
units (Some a) None e = cc
units (Some a) (Some b) e = refl

pub unit_semilattice : IsSemilattice {A = Unit {0}} (λ _ _. tt)
unit_semilattice = record { assoc = λ a b c. refl; comm = λ a b. refl; idem = λ a. refl }

module _ {K : Type 0} {R : K → K → Ordering} (o : IsTotalOrder R) (same : IsAntisymmetric R) where
  pub contains-union : (s t : Set R) (x : K) → contains (union s t) x ≡ (contains s x || contains t x)
  contains-union s t x = ap is_some (get-join_by o same (λ _ _. tt) s t x) ∙ is_some-join (get s x) (get t x)

  pub same_set : (s t : Set R) → ((x : K) → contains s x ≡ contains t x) → s ≡ t
  same_set s t h = same_map o same s t (λ x. units (get s x) (get t x) (h x))

  find_marked : (xs : List K) (x : K) → is_some (find R x (as_keys xs)) ≡ list_any (eq_by_cmp R x) xs
  find_marked [] x = refl
  find_marked (y ∷ xs) x = elim (eq_by_cmp R x y) as (λ b. is_some (cond b (Some tt) (find R x (as_keys xs)))
      ≡ (b || list_any (eq_by_cmp R x) xs)) [ true ↦ refl | false ↦ find_marked xs x ]

  pub contains-from_list : (xs : List K) (x : K) → contains (from_list {R = R} xs) x ≡ list_any (eq_by_cmp R x) xs
  contains-from_list xs x = ap is_some (get-from_entries o (as_keys xs) x) ∙ find_marked xs x

  pub firsts : (xs : List K) → map (λ (e : K × Unit {0}). e.0) (as_keys xs) ≡ xs
  firsts [] = refl
  firsts (x ∷ xs) = ap (λ ys. x ∷ ys) (firsts xs)

  -- a list in order, each element once, is that of its set
  pub items-from_list : (xs : List K) → T (is_sorted R (as_keys xs)) → items (from_list {R = R} xs) ≡ xs
  items-from_list xs h =
      let made : from_entries {R = R} (as_keys xs) ≡ from_sorted (as_keys xs) =
      same_map o same _ _ (λ x. get-from_entries o (as_keys xs) x ∙ sym (get-from_sorted R (as_keys xs) x h)) in
      ap (λ (s : Set R). items s) made ∙ (ap (map (λ (e : K × Unit {0}). e.0)) (entries-from_sorted R (as_keys xs) h) ∙ firsts xs)

  -- a set is that of its elements
  pub from_list-items : (s : Set R) → from_list (items s) ≡ s
  from_list-items s = same_set _ _ (λ x. contains-from_list (items s) x ∙ sym (contains_key-keys s x))

-- the keys of sorted entries are strictly sorted
pub less_from : (o : Ordering) → T (is_lt o) → o ≡ Less
less_from Less h = refl
less_from Equal h = absurd h
less_from Greater h = absurd h

pub two_parts : (a b : Bool) → T (a && b) → T a × T b
two_parts true b h = (tt, h)
two_parts false b h = absurd h

pub both_parts : (a b : Bool) → T a → T b → T (a && b)
both_parts true b p q = q
both_parts false b p q = absurd p

below_each : {K X : Type 0} (R : K → K → Ordering) (k : K) (es : List (K × X)) → T (below_all R k es) → AllByRecursion (λ y. R k y ≡ Less) (map (λ e. e.0) es)
below_each R k [] h = tt
below_each R k (e ∷ es) h = let p = two_parts (is_lt (R k e.0)) (below_all R k es) h in (less_from (R k e.0) p.0, below_each R k es p.1)

pub keys_rise : {K X : Type 0} (R : K → K → Ordering) (es : List (K × X)) → T (is_sorted R es) → IsStrictlySortedBy R (map (λ e. e.0) es)
unfolding IsStrictlySortedBy
keys_rise R [] h = tt
keys_rise R (e ∷ es) h = let p = two_parts (below_all R e.0 es) (is_sorted R es) h in (below_each R e.0 es p.0, keys_rise R es p.1)

-- the elements of a set stand in order
pub items_sorted : {K : Type 0} (R : K → K → Ordering) (s : Set R) → IsStrictlySortedBy R (items s)
items_sorted R s = keys_rise R (entries s) (entries_sorted s)
