-- The nearest memento of a list in order, by its place.
use Rattle.std.proofs.Common.{◌≡◌, ◌≢◌, ℕ, zero, suc, ◌+◌, ◌-◌, ◌<◌, ◌≤◌, ◌⊎◌, inl, inr, true, List, [], ◌∷◌, length}
use Rattle.std.proofs.Common.{get_or, slice_index, Some, None, refl, sym, ap, ◌∙◌, subst, arith}
use Rattle.std.specs.declared.cmp.Ordering.{Ordering}
use Rattle.std.specs.declared.cmp.Ordering.TheVariants.{Less, Equal, Greater}
use Rattle.std.specs.Prelude.{slice_get}
use Rattle.std.specs.List.{Any, AllByRecursion}
use Rattle.std.proofs.lemmas.List.{get_or_default}
use Rattle.std.proofs.lemmas.List.Folds.{list_any_at, Any-from_list_any}
use Rattle.std.specs.List.Sorted.{IsNonDecreasing, IsStrictlySortedBy}
use Rattle.std.specs.Option.{MatchOption}
use Rattle.std.specs.Ordering.{nat_cmp, eq_by_cmp, is_eq, ordering_then, ordering_reverse}
use Rattle.std.specs.Cmp.{Equal-is, tied_itself}
use Rattle.std.proofs.lemmas.Bool.{cases_lt}
use Rattle.std.proofs.lemmas.Cmp.{ranked}
use Rattle.std.proofs.lemmas.Option.{slice_get-get_or}
use Rattle.memento_time.specs.Mementos.{text_cmp, memento_cmp}
use Rattle.memento_time.specs.declared.mementos.Memento.{Memento}
use Rattle.memento_time.proofs.MementoLemmas.{memento_cmp_total, memento_cmp_exact}
use Rattle.memento_sets.specs.Sets as set
use Rattle.memento_sets.specs.MementoSets.{Mementos}
use Rattle.memento_index.specs.Choice.{distance, IsNearest, nearness_cmp, recency_cmp, least_by, nearest, last}
use Rattle.memento_sets.proofs.Sets.{contains-from_list}
use Rattle.memento_sets.proofs.Ordered.{items_in_order}
use Rattle.memento_index.proofs.Choice.{nearest-is, nearest_once, nearest_is_last}
use Rattle.memento_index.specs.Probes.{datetimes, gap}

-- of a list in order each one is below those behind it
all_at : (P : Memento → Type 0) (xs : List Memento) (k : ℕ) (d : Memento) → AllByRecursion P xs → k < length xs → P (get_or xs k d)
all_at P [] k d all lt = absurd (omega arith)
all_at P (x ∷ xs) zero d all lt = all.0
all_at P (x ∷ xs) (suc k) d all lt = all_at P xs k d all.1 (omega arith)

pub below_at : (xs : List Memento) → IsStrictlySortedBy memento_cmp xs → (i j : ℕ) (d : Memento) → i < j → j < length xs
    → memento_cmp (get_or xs i d) (get_or xs j d) ≡ Less
unfolding IsStrictlySortedBy
below_at [] up i j d lt in_range = absurd (omega arith)
below_at (x ∷ xs) up zero zero d lt in_range = absurd (omega arith)
below_at (x ∷ xs) up zero (suc j) d lt in_range = all_at (λ y. memento_cmp x y ≡ Less) xs j d up.0 (omega arith)
below_at (x ∷ xs) up (suc i) zero d lt in_range = absurd (omega arith)
below_at (x ∷ xs) up (suc i) (suc j) d lt in_range = below_at xs up.1 i j d (omega arith) (omega arith)

-- the one below isn't later
less_at : (a b : ℕ) (o : Ordering) → ordering_then (nat_cmp a b) o ≡ Less → a ≤ b
less_at a b o h =
    elim (nat_cmp a b) as (λ r. nat_cmp a b ≡ r → ordering_then r o ≡ Less → a ≤ b) [
      | Less ↦ λ is _. let lt : a < b = ranked a b Less (sym is) in omega arith
      | Equal ↦ λ is _. let same : a ≡ b = ranked a b Equal (sym is) in omega arith
      | Greater ↦ λ is not. absurd (cc)
    ] refl h

datetime_at : (xs : List Memento) (k : ℕ) (d : Memento) → k < length xs → slice_index (datetimes xs) k ≡ (get_or xs k d).at
datetime_at [] k d lt = absurd (omega arith)
datetime_at (x ∷ xs) zero d lt = refl
datetime_at (x ∷ xs) (suc k) d lt = datetime_at xs k d (omega arith)

pub length-datetimes : (xs : List Memento) → length (datetimes xs) ≡ length xs
length-datetimes [] = refl
length-datetimes (x ∷ xs) = ap suc (length-datetimes xs)

lt_or_same : (i j : ℕ) → i ≤ j → (i < j) ⊎ (i ≡ j)
lt_or_same i j le = elim (cases_lt i j) [ inl lt ↦ inl lt | inr ge ↦ inr (omega arith) ]

-- each datetime of a list in order is at least those before it
pub rises : (xs : List Memento) → IsStrictlySortedBy memento_cmp xs → (i j : ℕ) → i ≤ j → j < length xs
    → slice_index (datetimes xs) i ≤ slice_index (datetimes xs) j
rises [] up i j le lt = absurd (omega arith)
rises (x ∷ xs) up i j le lt =
    elim (lt_or_same i j le) [
      | inl below ↦
          let ys = x ∷ xs in
          let at_i = datetime_at ys i x (omega arith) in
          let at_j = datetime_at ys j x lt in
          let up_at = less_at (get_or ys i x).at (get_or ys j x).at (text_cmp (get_or ys i x).uri (get_or ys j x).uri) (below_at ys up i j x below lt) in
          omega (arith, at_i, at_j, up_at)
      | inr same ↦ let at_same = ap (slice_index (datetimes (x ∷ xs))) same in omega (arith, at_same)
    ]

-- each datetime at another place is farther, or as far and behind this one
pub record IsNearestPlace (ats : List ℕ) (t k : ℕ) : Type 0 where
  pub within : k < length ats
  pub nearest : (j : ℕ) → j < length ats → (gap t (slice_index ats k) < gap t (slice_index ats j)) ⊎
      ((gap t (slice_index ats k) ≡ gap t (slice_index ats j)) × (k ≤ j))

not_below : (xs : List Memento) → IsStrictlySortedBy memento_cmp xs → (k j : ℕ) (d : Memento) → k ≤ j → j < length xs
    → memento_cmp (get_or xs j d) (get_or xs k d) ≢ Less
not_below xs up k j d le lt less =
    elim (lt_or_same k j le) [
      | inl below ↦
          let there = below_at xs up k j d below lt in
          let back = memento_cmp_total.antisymm (get_or xs j d) (get_or xs k d) in
          other (sym less ∙ (back ∙ ap ordering_reverse there))
      | inr same ↦ same_one (sym less ∙ (ap (λ i. memento_cmp (get_or xs j d) (get_or xs i d)) same ∙ tied_itself memento_cmp_total (get_or xs j d)))
    ]
  where
    other : Less ≡ Greater → ⊥
    other e = cc

    same_one : Less ≡ Equal → ⊥
    same_one e = cc

closer : (t a b c e : ℕ) → a ≡ c → b ≡ e → gap t a < gap t b → gap t c < gap t e
closer t a b c e p q h = subst (λ x. gap t x < gap t e) p (subst (λ y. gap t a < gap t y) q h)

pub named : (xs : List Memento) → IsStrictlySortedBy memento_cmp xs → (t k : ℕ) → IsNearestPlace (datetimes xs) t k
    → slice_get xs k ≡ nearest (set.from_list xs) t
named [] up t k place = absurd (omega (arith, place.within))
named (x ∷ xs) up t k place =
    let ys = x ∷ xs in
    let ms : Mementos = set.from_list ys in
    let m = get_or ys k x in
    let in_range : k < length ys = omega (arith, place.within, length-datetimes ys) in
    let is : IsNearest ms t m = record {
      held = contains-from_list memento_cmp_total memento_cmp_exact ys m
          ∙ list_any_at (eq_by_cmp memento_cmp m) ys k x in_range (ap is_eq (tied_itself memento_cmp_total m));
      nearest = λ n h. at_place ys up t k x place in_range n
          (Any-from_list_any (eq_by_cmp memento_cmp n) ys
          (sym (contains-from_list memento_cmp_total memento_cmp_exact ys n) ∙ h));
    } in
    slice_get-get_or ys k x in_range
    ∙ elim (nearest ms t) as (λ r. MatchOption r (set.items ms ≡ []) (IsNearest ms t) → Some m ≡ r) [
      | None ↦ λ none. absurd (cons_or_none (sym (items_in_order ys up) ∙ none))
      | Some n ↦ λ other. ap Some (nearest_once ms t m n is other)
    ] (nearest-is ms t)
  where
    cons_or_none : {y : Memento} {ys : List Memento} → y ∷ ys ≡ [] → ⊥
    cons_or_none e = cc

    at_place : (ys : List Memento) → IsStrictlySortedBy memento_cmp ys → (t k : ℕ) (d : Memento)
        → IsNearestPlace (datetimes ys) t k → k < length ys → (n : Memento)
        → Any (λ y. eq_by_cmp memento_cmp n y ≡ true) ys → (distance t (get_or ys k d) < distance t n) ⊎
        ((distance t (get_or ys k d) ≡ distance t n) × (memento_cmp n (get_or ys k d) ≢ Less))
    at_place ys up t k d place in_range n any =
        let j = any.0 in
        let lt : j < length ys = any.2 in
        let n_is : n ≡ get_or ys j d = memento_cmp_exact n any.1 ((Equal-is (memento_cmp n any.1)).0 any.4) ∙ (sym any.3 ∙ get_or_default ys j any.1 d lt) in
        let at_k = datetime_at ys k d in_range in
        let at_j = datetime_at ys j d lt ∙ ap (λ (y : Memento). y.at) (sym n_is) in
        elim (place.nearest j (omega (arith, lt, length-datetimes ys))) [
          | inl nearer ↦ inl (closer t (slice_index (datetimes ys) k) (slice_index (datetimes ys) j) (get_or ys k d).at n.at at_k at_j nearer)
          | inr tie ↦ inr (
            ap (gap t) (sym at_k) ∙ (tie.0 ∙ ap (gap t) at_j),
            λ less. not_below ys up k j d tie.1 lt
                (ap (λ y. memento_cmp y (get_or ys k d)) (sym n_is) ∙ less),
          )
        ]

by_gap : (t a b k j : ℕ) → gap t a ≤ gap t b → k ≤ j → (gap t a < gap t b) ⊎ ((gap t a ≡ gap t b) × (k ≤ j))
by_gap t a b k j le here = elim (cases_lt (gap t a) (gap t b)) [ inl lt ↦ inl lt | inr ge ↦ inr (omega (arith, le, ge), here) ]

-- where none is before the moment, the first
pub first_place : (ats : List ℕ) (t : ℕ) → IsNonDecreasing ats → 0 < length ats
    → ((k : ℕ) → 0 ≤ k → k < length ats → t ≤ slice_index ats k) → IsNearestPlace ats t 0
first_place ats t up some after = record {
  within = some;
  nearest = λ j lt.
      let rise : slice_index ats 0 ≤ slice_index ats j = up 0 j 0 (omega arith) lt in
      let first = after 0 (omega arith) some in
      let at_j = after j (omega arith) lt in
      by_gap t (slice_index ats 0) (slice_index ats j) 0 j (omega arith) (omega arith);
}

-- where the first one that isn't before the moment is nearer than the one in front of it, that
pub after_place : (ats : List ℕ) (t place : ℕ) → IsNonDecreasing ats → 0 < place → place < length ats
    → ((k : ℕ) → k < place → slice_index ats k < t) → ((k : ℕ) → place ≤ k → k < length ats → t ≤ slice_index ats k)
    → gap t (slice_index ats place) < gap t (slice_index ats (place - 1)) → IsNearestPlace ats t place
after_place ats t place up some lt before after nearer = record {
  within = lt;
  nearest = λ j in_range.
      let here = after place (omega arith) lt in
      elim (cases_lt j place) [
        | inl less ↦
            let early = before j less in
            let front = before (place - 1) (omega arith) in
            let rise : slice_index ats j ≤ slice_index ats (place - 1) = up j (place - 1) 0 (omega arith) (omega arith) in
            inl (omega arith)
        | inr more ↦
            let late = after j more in_range in
            let rise : slice_index ats place ≤ slice_index ats j = up place j 0 more in_range in
            by_gap t (slice_index ats place) (slice_index ats j) place j (omega arith) more
      ];
}

-- or else the first one at the datetime of the last that is before the moment
pub before_place : (ats : List ℕ) (t place k : ℕ) → IsNonDecreasing ats → 0 < place → place ≤ length ats
    → ((j : ℕ) → j < place → slice_index ats j < t) → ((j : ℕ) → place ≤ j → j < length ats → t ≤ slice_index ats j)
    → (place < length ats → gap t (slice_index ats (place - 1)) ≤ gap t (slice_index ats place)) → k ≤ place - 1
    → ((j : ℕ) → j < k → slice_index ats j < slice_index ats (place - 1))
    → ((j : ℕ) → k ≤ j → j < place - 1 → slice_index ats (place - 1) ≤ slice_index ats j) → IsNearestPlace ats t k
before_place ats t place k up some le before after farther within less least =
    let back : slice_index ats (place - 1) < t = before (place - 1) (omega arith) in
    let top : slice_index ats k ≤ slice_index ats (place - 1) = up k (place - 1) 0 within (omega arith) in
    let here : slice_index ats k ≡ slice_index ats (place - 1) = elim (cases_lt k (place - 1)) [
      | inl lt ↦ let low = least k (omega arith) lt in omega arith
      | inr ge ↦ ap (slice_index ats) (omega arith)
    ] in
    record {
      within = omega arith;
      nearest = λ j in_range. elim (cases_lt j k) [
        | inl lt ↦ let early = less j lt in inl (omega arith)
        | inr ge ↦ elim (cases_lt j place) [
          | inl lt ↦
              let rise : slice_index ats k ≤ slice_index ats j = up k j 0 ge in_range in
              let fall : slice_index ats j ≤ slice_index ats (place - 1) = up j (place - 1) 0 (omega arith) (omega arith) in
              by_gap t (slice_index ats k) (slice_index ats j) k j (omega arith) ge
          | inr more ↦
              let far = farther (omega arith) in
              let rise : slice_index ats place ≤ slice_index ats j = up place j 0 more in_range in
              let late = after place (omega arith) (omega arith) in
              by_gap t (slice_index ats k) (slice_index ats j) k j (omega arith) ge
        ]
      ];
    }

-- the list in order has datetimes that don't fall
pub non_decreasing : (xs : List Memento) → IsStrictlySortedBy memento_cmp xs → IsNonDecreasing (datetimes xs)
non_decreasing xs up i j d le lt =
    let h = rises xs up i j le (omega (arith, lt, length-datetimes xs)) in
    omega (arith, h, get_or_default (datetimes xs) i d 0 (omega arith), get_or_default (datetimes xs) j d 0 lt)

pub none_named : (xs : List Memento) (t : ℕ) → IsStrictlySortedBy memento_cmp xs → length xs ≡ 0 → None ≡ nearest (set.from_list {R = memento_cmp} xs) t
unfolding nearest
none_named [] t up h = ap (least_by (nearness_cmp t)) (sym (items_in_order [] up))
none_named (x ∷ xs) t up h = absurd (omega arith)

-- where one is held, its datetime stands at a place
held_at : (xs : List Memento) (n : Memento) → set.contains (set.from_list {R = memento_cmp} xs) n ≡ true → (j : ℕ)
    × (j < length xs) × (slice_index (datetimes xs) j ≡ n.at)
held_at xs n h =
    let any = Any-from_list_any (eq_by_cmp memento_cmp n) xs (sym (contains-from_list memento_cmp_total memento_cmp_exact xs n) ∙ h) in
    let lt : any.0 < length xs = any.2 in
    let is : n ≡ any.1 = memento_cmp_exact n any.1 ((Equal-is (memento_cmp n any.1)).0 any.4) in
    (any.0, lt, datetime_at xs any.0 any.1 lt ∙ ap (λ (m : Memento). m.at) (any.3 ∙ sym is))

-- the first place at a datetime is the nearest to it
there_place : (ats : List ℕ) (t k : ℕ) → k < length ats → slice_index ats k ≡ t → ((j : ℕ) → j < k → slice_index ats j < t) → IsNearestPlace ats t k
there_place ats t k within there less = record {
  within = within;
  nearest = λ j in_range. elim (cases_lt j k) [
    | inl lt ↦ let early = less j lt in inl (omega arith)
    | inr ge ↦ by_gap t (slice_index ats k) (slice_index ats j) k j (omega arith) ge
  ];
}

-- the first place at the greatest datetime has the last memento
pub last_named : (xs : List Memento) → IsStrictlySortedBy memento_cmp xs → (k end : ℕ) → length xs ≡ end + 1 → k ≤ end
    → ((j : ℕ) → j < k → slice_index (datetimes xs) j < slice_index (datetimes xs) end)
    → ((j : ℕ) → k ≤ j → j < end → slice_index (datetimes xs) end ≤ slice_index (datetimes xs) j) → slice_get xs k
    ≡ last (set.from_list xs)
last_named xs up k end size within less least =
    let t = slice_index (datetimes xs) end in
    let top : (j : ℕ) → j < length xs → slice_index (datetimes xs) j ≤ t = λ j lt. rises xs up j end (omega arith) (omega arith) in
    let there : slice_index (datetimes xs) k ≡ t = elim (cases_lt k end) [
      | inl lt ↦ let high = least k (omega arith) lt in let low = top k (omega arith) in omega arith
      | inr ge ↦ ap (slice_index (datetimes xs)) (omega arith)
    ] in
    named xs up t k (there_place (datetimes xs) t k (omega (arith, length-datetimes xs)) there less)
    ∙ nearest_is_last (set.from_list xs) t (λ n h. let j = held_at xs n h in let low = top j.0 j.1 in omega (arith, j.2))

pub none_last : (xs : List Memento) → IsStrictlySortedBy memento_cmp xs → length xs ≡ 0 → None ≡ last (set.from_list {R = memento_cmp} xs)
unfolding last
none_last [] up h = ap (least_by recency_cmp) (sym (items_in_order [] up))
none_last (x ∷ xs) up h = absurd (omega arith)
