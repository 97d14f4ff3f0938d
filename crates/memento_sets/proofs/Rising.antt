-- Entries whose keys rise, and mementos that rise, from each to the next.
use Rattle.std.proofs.Common.{◌≡◌, ℕ, zero, suc, ◌-◌, ◌<◌, ◌≤◌, Bool, true, false, map, length, get_or, List, [], ◌∷◌, refl, sym, ap, subst, ◌∙◌, arith}
use Rattle.std.specs.Prelude.{T}
use Rattle.std.specs.declared.cmp.Ordering.{Ordering}
use Rattle.std.specs.declared.cmp.Ordering.TheVariants.{Less}
use Rattle.std.specs.List.{AllAdjacentBelow, AllByRecursion}
use Rattle.std.specs.List.Sorted.{IsStrictlySortedBy}
use Rattle.std.specs.Ordering.{is_lt}
use Rattle.std.specs.Cmp.{IsTotalOrder}
use Rattle.std.specs.FinMap.{is_sorted}
use Rattle.std.specs.FinMap.Entries.{below_all}
use Rattle.std.proofs.lemmas.Map.Keys.{sorted_from_all_adjacent, Less-from_sorted}
use Rattle.memento_time.specs.Mementos.{memento_cmp}
use Rattle.memento_time.proofs.MementoLemmas.{memento_cmp_total, memento_cmp_exact}
use Rattle.memento_time.specs.declared.mementos.Memento.{Memento}
use Rattle.memento_sets.specs.Sets as set
use Rattle.memento_sets.proofs.Sets.{keys_rise, firsts, less_from, both_parts}

pub is_true : (b : Bool) → T b → b ≡ true
is_true true h = refl
is_true false h = absurd h

is_false : (b : Bool) → (T b → ⊥) → b ≡ false
is_false true h = absurd (h tt)
is_false false h = refl

-- the first n rise
abbrev pub Rises : {K : Type 0} → (K → K → Ordering) → List K → ℕ → Type 0
Rises R ks n = AllAdjacentBelow (λ x y. R x y ≡ Less) ks n

module _ {K X : Type 0} (R : K → K → Ordering) where
  below_keys : (k : K) (es : List (K × X)) → AllByRecursion (λ y. R k y ≡ Less) (map (λ e. e.0) es) → T (below_all R k es)
  below_keys k [] h = tt
  below_keys k (e ∷ es) h = both_parts (is_lt (R k e.0)) (below_all R k es) (subst (λ r. T (is_lt r)) (sym h.0) tt) (below_keys k es h.1)

  pub from_keys : (es : List (K × X)) → IsStrictlySortedBy R (map (λ e. e.0) es) → T (is_sorted R es)
  unfolding IsStrictlySortedBy
  from_keys [] h = tt
  from_keys (e ∷ es) h = both_parts (below_all R e.0 es) (is_sorted R es) (below_keys e.0 es h.0) (from_keys es h.1)

  pub risen : IsTotalOrder R → (es : List (K × X)) (ks : List K) (n : ℕ) (d : K) → map (λ e. e.0) es ≡ ks → Rises R ks n → length ks ≤ n → is_sorted R es ≡ true
  risen o es ks n d e rises le = is_true (is_sorted R es)
      (from_keys es (subst (IsStrictlySortedBy R) (sym e)
      (sorted_from_all_adjacent o ks d (λ k lt. rises k d (omega (arith, le, lt))))))

  pub fallen : (es : List (K × X)) (ks : List K) (k : ℕ) (d : K) → map (λ e. e.0) es ≡ ks → 0 < k → k < length ks
      → (R (get_or ks (k - 1) d) (get_or ks k d) ≡ Less → ⊥) → is_sorted R es ≡ false
  fallen es ks k d e some lt differ = is_false (is_sorted R es)
      (λ h. differ (Less-from_sorted R ks (k - 1) k d (subst (IsStrictlySortedBy R) e (keys_rise R es h))
      (omega arith) lt))

pub mementos_risen : (ms : List Memento) (n : ℕ) → Rises memento_cmp ms n → length ms ≤ n → is_sorted memento_cmp (set.as_keys ms) ≡ true
mementos_risen ms n rises le = elim ms as (λ ms. Rises memento_cmp ms n → length ms ≤ n → is_sorted memento_cmp (set.as_keys ms) ≡ true) [
  | [] ↦ λ rises le. refl
  | m ∷ ms ↦ λ rises le. risen memento_cmp memento_cmp_total (set.as_keys (m ∷ ms)) (m ∷ ms) n m (firsts memento_cmp_total memento_cmp_exact (m ∷ ms)) rises le
] rises le

pub mementos_fallen : (ms : List Memento) (k : ℕ) (a b : Memento) → 0 < k → k < length ms → a ≡ get_or ms (k - 1) a → b ≡ get_or ms k b
    → (memento_cmp a b ≡ Less → ⊥) → is_sorted memento_cmp (set.as_keys ms) ≡ false
mementos_fallen ms k a b some lt at next differ =
    fallen memento_cmp (set.as_keys ms) ms k a (firsts memento_cmp_total memento_cmp_exact ms) some lt
    (λ less. differ (subst (λ y. memento_cmp a y ≡ Less) (same_default ms k a b lt ∙ sym next)
    (subst (λ x. memento_cmp x (get_or ms k a) ≡ Less) (sym at) less)))
  where
    same_default : {A : Type 0} (xs : List A) (k : ℕ) (a b : A) → k < length xs → get_or xs k a ≡ get_or xs k b
    same_default [] k a b lt = absurd (omega arith)
    same_default (x ∷ xs) zero a b lt = refl
    same_default (x ∷ xs) (suc k) a b lt = same_default xs k a b (omega arith)

-- mementos that rise stand in order
pub rise_in_order : (ms : List Memento) → is_sorted memento_cmp (set.as_keys ms) ≡ true → IsStrictlySortedBy memento_cmp ms
rise_in_order ms h = subst (IsStrictlySortedBy memento_cmp) (firsts memento_cmp_total memento_cmp_exact ms)
    (keys_rise memento_cmp (set.as_keys ms) (subst T (sym h) tt))

pub less_is : (r : Ordering) (b : Bool) → b ≡ is_lt r → b ≡ true → r ≡ Less
less_is r b e h = less_from r (subst T (sym h ∙ e) tt)

pub not_less : (r : Ordering) (b : Bool) → b ≡ is_lt r → b ≡ false → r ≡ Less → ⊥
not_less r b e h less = subst T ((ap is_lt (sym less) ∙ sym e) ∙ h) tt
