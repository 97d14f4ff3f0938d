-- A tally lists the mementos that are counted, in order.
use Rattle.std.proofs.Common.{◌≡◌, ◌+◌, ◌<◌, Bool, true, false, cond, ◌||◌, List, [], ◌∷◌, refl, sym, ap, ◌∙◌, arith}
use Rattle.std.specs.List.{list_any, AllByRecursion}
use Rattle.std.specs.List.Sorted.{IsStrictlySortedBy}
use Rattle.std.specs.Ordering.{eq_by_cmp}
use Rattle.std.specs.declared.cmp.Ordering.TheVariants.{Less}
use Rattle.std.proofs.lemmas.Bool.{true≢false}
use Rattle.memento_time.specs.Mementos.{memento_cmp}
use Rattle.memento_time.specs.declared.mementos.Memento.{Memento}
use Rattle.memento_time.proofs.MementoLemmas.{memento_cmp_total, memento_cmp_exact}
use Rattle.memento_sets.specs.Sets as set
use Rattle.memento_sets.specs.MementoSets.{Mementos}
use Rattle.memento_sets.proofs.Sets.{contains-from_list, same_set}
use Rattle.memento_sets.proofs.Ordered.{items_in_order}
use Rattle.memento_index.specs.Counts.{mementos_of, count_of, AreAbove, IsTally}
use Rattle.memento_index.specs.declared.counted.Counted.{Counted}

above_listed : (m : Memento) (es : List Counted) → AreAbove m es → AllByRecursion (λ n. memento_cmp m n ≡ Less) (mementos_of es)
above_listed m [] above = tt
above_listed m (e ∷ es) above = (above.0, above_listed m es above.1)

pub tally_sorted : (es : List Counted) → IsTally es → IsStrictlySortedBy memento_cmp (mementos_of es)
unfolding IsStrictlySortedBy
tally_sorted [] up = tt
tally_sorted (e ∷ es) up = (above_listed e.memento es up.1, tally_sorted es up.2)

-- what is listed is counted, and the other way round
counted_if_listed : (es : List Counted) (x : Memento) → IsTally es → list_any (eq_by_cmp memento_cmp x) (mementos_of es) ≡ true → 0 < count_of es x
counted_if_listed [] x up h = absurd (true≢false (sym h))
counted_if_listed (e ∷ es) x up h =
    elim (eq_by_cmp memento_cmp x e.memento) as (λ b. (b || list_any (eq_by_cmp memento_cmp x) (mementos_of es)) ≡ true
    → 0 < cond b e.count 0 + count_of es x) [
      | true ↦ λ _. let some : 0 < e.count = up.0 in omega arith
      | false ↦ λ rest. let some = counted_if_listed es x up.2 rest in omega arith
    ] h

none_if_not : (es : List Counted) (x : Memento) → list_any (eq_by_cmp memento_cmp x) (mementos_of es) ≡ false → count_of es x ≡ 0
none_if_not [] x h = refl
none_if_not (e ∷ es) x h =
    elim (eq_by_cmp memento_cmp x e.memento) as (λ b. (b || list_any (eq_by_cmp memento_cmp x) (mementos_of es)) ≡ false
    → cond b e.count 0 + count_of es x ≡ 0) [
      | true ↦ λ bad. absurd (true≢false bad)
      | false ↦ λ rest. let none = none_if_not es x rest in omega arith
    ] h

-- where the counts are above 0 just at the members of a set, the list is that of the set
pub tally_lists : (es : List Counted) (s : Mementos) → IsTally es
    → ((x : Memento) → set.contains s x ≡ true → 0 < count_of es x)
    → ((x : Memento) → set.contains s x ≡ false → count_of es x ≡ 0) → mementos_of es ≡ set.items s
tally_lists es s up held none = sym (items_in_order (mementos_of es) (tally_sorted es up))
    ∙ ap (λ (t : Mementos). set.items t)
    (same_set memento_cmp_total memento_cmp_exact _ s (λ x. contains-from_list memento_cmp_total memento_cmp_exact
    (mementos_of es) x ∙ either x (list_any (eq_by_cmp memento_cmp x) (mementos_of es)) (set.contains s x)
    (counted_if_listed es x up) (none_if_not es x) (held x) (none x)))
  where
    either : (x : Memento) (a b : Bool) → (a ≡ true → 0 < count_of es x) → (a ≡ false → count_of es x ≡ 0)
        → (b ≡ true → 0 < count_of es x) → (b ≡ false → count_of es x ≡ 0) → a ≡ b
    either x true true p q r t = refl
    either x false false p q r t = refl
    either x true false p q r t = absurd (omega (arith, p refl, t refl))
    either x false true p q r t = absurd (omega (arith, q refl, r refl))
