-- Parts in order: the place of a revision among them, what stands there after a part is put, and two lists in one.
use Rattle.std.proofs.Common.{◌≡◌, ℕ, zero, suc, ◌+◌, ◌<◌, ◌≤◌, Bool, true, false, cond, eqb, leb, max, List, []}
use Rattle.std.proofs.Common.{◌∷◌, ◌++◌, length, take, drop, get_or, Option, Some, None, IfSome}
use Rattle.std.proofs.Common.{refl, sym, ap, subst, ◌∙◌, arith, append_assoc}
use Rattle.std.specs.Prelude.{T, option_to_list, slice_get}
use Rattle.std.specs.List.Sorted.{IsNonDecreasingBy}
use Rattle.std.specs.Option.{MatchOption}
use Rattle.std.specs.Ordering.{eq_by_cmp, is_lt, nat_cmp}
use Rattle.std.specs.Cmp.{ranked, nat_cmp_is}
use Rattle.std.specs.declared.cmp.Ordering.TheVariants.{Less, Equal, Greater}
use Rattle.std.specs.FinMap as map
use Rattle.std.specs.FinMap.Entries.{by_order, below_all}
use Rattle.std.proofs.Common.{inl, inr, set}
use Rattle.std.proofs.lemmas.Bool.{true≢false, eqb-true, leb-true, le-leb, cases_lt}
use Rattle.std.proofs.lemmas.Bool.Decides.{nat_tests}
use Rattle.std.proofs.lemmas.Option.{same_Some}
use Rattle.memento_sets.proofs.Sets.{two_parts}
use Rattle.memento_sets.specs.Maps.{join_values}
use Rattle.memento_sets.specs.MementoSets.{Mementos}
use Rattle.harvest_lattice.specs.Lattice.{Kept, first_of, whole, held, not_before, join_kept}
use Rattle.harvest_lattice.specs.Parts.{PartsRise, IsPlace, IsParted, kept_in, found_set, put_part, current, is_of, united_at, with_standing}
use Rattle.harvest_lattice.proofs.Entries.{same_kept, whole-join_kept}
use Rattle.harvest_lattice.proofs.Entries.{held-join_kept, held_from_whole, both_held, unite, same_revision}
use Rattle.harvest_lattice.proofs.Entries.{revision_itself, before, rising_parts}
use Rattle.harvest_lattice.proofs.Parts.{held_in, whole_in, passed, AreBelow, none_before}
use Rattle.harvest_lattice.proofs.Parts.{find-put_part, rise-put_part, rise-current, find-current}

-- ---- parts in order

rising_parts_of : (n : ℕ) (e : ℕ × Mementos) (es : List (ℕ × Mementos)) → T (below_all nat_cmp n (e ∷ es))
    → T (is_lt (nat_cmp n e.0)) × T (below_all nat_cmp n es)
rising_parts_of n e es h = two_parts (is_lt (nat_cmp n e.0)) (below_all nat_cmp n es) h

below_at : (n : ℕ) (es : List (ℕ × Mementos)) → T (below_all nat_cmp n es) → (k : ℕ) (d : ℕ × Mementos) → k < length es → n < (get_or es k d).0
below_at n [] h k d lt = absurd (omega arith)
below_at n (e ∷ es) h zero d lt = before n e.0 (rising_parts_of n e es h).0
below_at n (e ∷ es) h (suc k) d lt = below_at n es (rising_parts_of n e es h).1 k d (omega arith)

pub risen : (es : List (ℕ × Mementos)) → PartsRise es → (i j : ℕ) (d : ℕ × Mementos) → i < j → j < length es → (get_or es i d).0 < (get_or es j d).0
risen [] h i j d lt in_range = absurd (omega arith)
risen (e ∷ es) h zero zero d lt in_range = absurd (omega arith)
risen (e ∷ es) h zero (suc j) d lt in_range = below_at e.0 es (rising_parts e es h).0 j d (omega arith)
risen (e ∷ es) h (suc i) zero d lt in_range = absurd (omega arith)
risen (e ∷ es) h (suc i) (suc j) d lt in_range = risen es (rising_parts e es h).1 i j d (omega arith) (omega arith)

pub rise_numbers : (es : List (ℕ × Mementos)) → PartsRise es → IsNonDecreasingBy (λ (p : ℕ × Mementos). p.0) es
rise_numbers es h i j d le in_range =
    elim (cases_lt i j) [
      | inl lt ↦ let less : (get_or es i d).0 < (get_or es j d).0 = risen es h i j d lt in_range in omega arith
      | inr ge ↦ let same : i ≡ j = omega arith in subst (λ k. (get_or es i d).0 ≤ (get_or es k d).0) same (omega arith)
    ]

-- ---- the place of a revision

place_rest : (e : ℕ × Mementos) (es : List (ℕ × Mementos)) (r k : ℕ) → IsPlace (e ∷ es) r (suc k) → IsPlace es r k
place_rest e es r k h = (λ i d low lt. h.0 (suc i) d (omega arith) (omega arith), λ i d low lt. h.1 (suc i) d (omega arith) (omega arith))

place_passed : (e : ℕ × Mementos) (es : List (ℕ × Mementos)) (r k : ℕ) → IsPlace (e ∷ es) r (suc k) → e.0 < r
place_passed e es r k h = h.0 0 e (omega arith) (omega arith)

place_first : (e : ℕ × Mementos) (es : List (ℕ × Mementos)) (r : ℕ) → IsPlace (e ∷ es) r zero → r ≤ e.0
place_first e es r h = h.1 0 e (omega arith) (omega arith)

-- a first part that is no lesser is of the revision or of a greater one
first_by : (e : ℕ × Mementos) (r : ℕ) → r ≤ e.0 → eqb e.0 r ≡ false → r < e.0
first_by e r le other = grind (arith, nat_tests)

other_revision : (q r : ℕ) → (q ≡ r → ⊥) → eq_by_cmp nat_cmp q r ≡ false
other_revision q r ne =
    elim (eq_by_cmp nat_cmp q r) as (λ b. eq_by_cmp nat_cmp q r ≡ b → b ≡ false) [
      | true ↦ λ t. absurd (ne (same_revision q r t))
      | false ↦ λ _. refl
    ] refl

same_tested : (q r : ℕ) → q ≡ r → eq_by_cmp nat_cmp q r ≡ true
same_tested q r e = ap (λ n. eq_by_cmp nat_cmp q n) (sym e) ∙ revision_itself q

pub find_at : (es : List (ℕ × Mementos)) (r k : ℕ) → PartsRise es → IsPlace es r k → map.find nat_cmp r es
    ≡ found_set (cond (is_of r (slice_get es k)) (slice_get es k) None)
find_at [] r k rise h = refl
find_at (e ∷ es) r zero rise h =
    elim (eqb e.0 r) as (λ b. eqb e.0 r ≡ b → map.find nat_cmp r (e ∷ es) ≡ found_set (cond b (Some e) None)) [
      | true ↦ λ t. ap (λ b. cond b (Some e.1) (map.find nat_cmp r es)) (same_tested r e.0 (sym (eqb-true e.0 r t)))
      | false ↦ λ t. none_before r e es rise (first_by e r (place_first e es r h) t)
    ] refl
find_at (e ∷ es) r (suc k) rise h =
    let lt : e.0 < r = place_passed e es r k h in
    ap (λ b. cond b (Some e.1) (map.find nat_cmp r es)) (other_revision r e.0 (λ same. absurd (omega arith)))
    ∙ find_at es r k (rising_parts e es rise).1 (place_rest e es r k h)

pub here_within : (es : List (ℕ × Mementos)) (r k : ℕ) → is_of r (slice_get es k) ≡ true → k < length es
here_within [] r k t = absurd (true≢false (sym t))
here_within (e ∷ es) r zero t = omega arith
here_within (e ∷ es) r (suc k) t = let less : k < length es = here_within es r k t in omega arith

-- ---- a part put in its place

pub put_same : (e : ℕ × Mementos) (es : List (ℕ × Mementos)) (p : ℕ × Mementos) → p.0 ≡ e.0 → put_part (e ∷ es) p ≡ (e.0, unite e.1 p.1) ∷ es
put_same e es p same = ap (λ o. by_order o (p ∷ e ∷ es) ((e.0, unite e.1 p.1) ∷ es) (e ∷ put_part es p)) (sym (nat_cmp_is p.0 e.0 Equal same))

pub put_first : (e : ℕ × Mementos) (es : List (ℕ × Mementos)) (p : ℕ × Mementos) → p.0 < e.0 → put_part (e ∷ es) p ≡ p ∷ e ∷ es
put_first e es p lt = ap (λ o. by_order o (p ∷ e ∷ es) ((e.0, unite e.1 p.1) ∷ es) (e ∷ put_part es p)) (sym (nat_cmp_is p.0 e.0 Less lt))

pub united_placed : (es : List (ℕ × Mementos)) (k : ℕ) (p : ℕ × Mementos) → IsPlace es p.0 k
    → is_of p.0 (slice_get es k) ≡ true → united_at es k p.1 ≡ put_part es p
united_placed [] k p h t = absurd (true≢false (sym t))
united_placed (e ∷ es) zero p h t = sym (put_same e es p (sym (eqb-true e.0 p.0 t)))
united_placed (e ∷ es) (suc k) p h t = ap (λ ys. e ∷ ys) (united_placed es k p (place_rest e es p.0 k h) t) ∙ sym (passed e es p (place_passed e es p.0 k h))

pub inserted_placed : (es : List (ℕ × Mementos)) (k : ℕ) (p : ℕ × Mementos) → IsPlace es p.0 k
    → is_of p.0 (slice_get es k) ≡ false → take k es ++ p ∷ drop k es ≡ put_part es p
inserted_placed [] zero p h t = refl
inserted_placed [] (suc k) p h t = refl
inserted_placed (e ∷ es) zero p h t = sym (put_first e es p (first_by e p.0 (place_first e es p.0 h) t))
inserted_placed (e ∷ es) (suc k) p h t = ap (λ ys. e ∷ ys) (inserted_placed es k p (place_rest e es p.0 k h) t)
    ∙ sym (passed e es p (place_passed e es p.0 k h))

-- the value at a place, taken in
pub absorbed_at : (es : List (ℕ × Mementos)) (k : ℕ) (e : ℕ × Mementos) (s : Mementos) → k < length es
    → e ≡ get_or es k e → set es k (e.0, unite e.1 s) ≡ united_at es k s
absorbed_at [] k e s lt is = absurd (omega arith)
absorbed_at (x ∷ xs) zero e s lt is = ap (λ (y : ℕ × Mementos). (y.0, unite y.1 s) ∷ xs) is
absorbed_at (x ∷ xs) (suc k) e s lt is = ap (λ ys. x ∷ ys) (absorbed_at xs k e s (omega arith) is)

pub same_at : (es : List (ℕ × Mementos)) (k : ℕ) (e : ℕ × Mementos) → k < length es → e ≡ get_or es k e → set es k e ≡ es
same_at [] k e lt is = absurd (omega arith)
same_at (x ∷ xs) zero e lt is = ap (λ (y : ℕ × Mementos). y ∷ xs) is
same_at (x ∷ xs) (suc k) e lt is = ap (λ ys. x ∷ ys) (same_at xs k e (omega arith) is)

-- what is left from a place on, once mementos are taken in there
pub first_left : (es : List (ℕ × Mementos)) (k : ℕ) (e f : ℕ × Mementos) (rest : List (ℕ × Mementos)) (s : Mementos)
    → k < length es → e ≡ get_or es k e → f ≡ (e.0, unite e.1 s) → rest ≡ drop (k + 1) es
    → f ∷ rest ≡ drop k (united_at es k s)
first_left es k e f rest s lt is eq left = by_next es k lt is (left ∙ ap (λ n. drop n es) (next k))
  where
    next : (k : ℕ) → k + 1 ≡ suc k
    next k = omega arith

    by_next : (xs : List (ℕ × Mementos)) (k : ℕ) → k < length xs → e ≡ get_or xs k e → rest ≡ drop (suc k) xs → f ∷ rest ≡ drop k (united_at xs k s)
    by_next [] k lt is left = absurd (omega arith)
    by_next (x ∷ xs) zero lt is left = (λ i. (eq ∙ ap (λ (y : ℕ × Mementos). (y.0, unite y.1 s)) is) i ∷ left i)
    by_next (x ∷ xs) (suc k) lt is left = by_next xs k (omega arith) is left

-- ---- what stays of parts with a whole one put among them

all_stay : (r n : ℕ) (es : List (ℕ × Mementos)) → r ≤ n → T (below_all nat_cmp n es) → current (Some r) es ≡ es
all_stay r n [] le h = refl
all_stay r n (e ∷ es) le h =
    let lt : n < e.0 = before n e.0 (rising_parts_of n e es h).0 in
    ap (λ b. cond b (e ∷ current (Some r) es) (current (Some r) es)) (le-leb r e.0 (omega arith))
    ∙ ap (λ ys. e ∷ ys) (all_stay r n es le (rising_parts_of n e es h).1)

goes : (r : ℕ) (e : ℕ × Mementos) (es : List (ℕ × Mementos)) → e.0 < r → current (Some r) (e ∷ es) ≡ current (Some r) es
goes r e es lt = ap (λ b. cond b (e ∷ current (Some r) es) (current (Some r) es)) (not_le r e.0 lt)
  where
    not_le : (r n : ℕ) → n < r → leb r n ≡ false
    not_le r n lt = grind (arith, nat_tests)

stays : (r : ℕ) (e : ℕ × Mementos) (es : List (ℕ × Mementos)) → r ≤ e.0 → current (Some r) (e ∷ es) ≡ e ∷ current (Some r) es
stays r e es le = ap (λ b. cond b (e ∷ current (Some r) es) (current (Some r) es)) (le-leb r e.0 le)

pub united_stays : (es : List (ℕ × Mementos)) (k : ℕ) (p : ℕ × Mementos) → PartsRise es → IsPlace es p.0 k
    → is_of p.0 (slice_get es k) ≡ true → drop k (united_at es k p.1) ≡ current (Some p.0) (put_part es p)
united_stays [] k p rise h t = absurd (true≢false (sym t))
united_stays (x ∷ xs) zero p rise h t =
    let same : x.0 ≡ p.0 = eqb-true x.0 p.0 t in
    let le : p.0 ≤ x.0 = omega arith in
    sym (ap (current (Some p.0)) (put_same x xs p (sym same))
    ∙ (stays p.0 (x.0, unite x.1 p.1) xs le
    ∙ ap (λ ys. (x.0, unite x.1 p.1) ∷ ys) (all_stay p.0 x.0 xs le (rising_parts x xs rise).0)))
united_stays (x ∷ xs) (suc k) p rise h t =
    let lt : x.0 < p.0 = place_passed x xs p.0 k h in
    united_stays xs k p (rising_parts x xs rise).1 (place_rest x xs p.0 k h) t
    ∙ sym (ap (current (Some p.0)) (passed x xs p lt) ∙ goes p.0 x (put_part xs p) lt)

pub inserted_stays : (es : List (ℕ × Mementos)) (k : ℕ) (p : ℕ × Mementos) → PartsRise es → IsPlace es p.0 k
    → is_of p.0 (slice_get es k) ≡ false → p ∷ drop k es ≡ current (Some p.0) (put_part es p)
inserted_stays [] zero p rise h t = sym (stays p.0 p [] (omega arith))
inserted_stays [] (suc k) p rise h t = sym (stays p.0 p [] (omega arith))
inserted_stays (x ∷ xs) zero p rise h t =
    let lt : p.0 < x.0 = first_by x p.0 (place_first x xs p.0 h) t in
    let le : p.0 ≤ x.0 = omega arith in
    sym (ap (current (Some p.0)) (put_first x xs p lt) ∙ (stays p.0 p (x ∷ xs) (omega arith) ∙ (ap (λ ys. p ∷ ys) (stays p.0 x xs le)
    ∙ ap (λ ys. p ∷ x ∷ ys) (all_stay p.0 x.0 xs le (rising_parts x xs rise).0))))
inserted_stays (x ∷ xs) (suc k) p rise h t =
    let lt : x.0 < p.0 = place_passed x xs p.0 k h in
    inserted_stays xs k p (rising_parts x xs rise).1 (place_rest x xs p.0 k h) t
    ∙ sym (ap (current (Some p.0)) (passed x xs p lt) ∙ goes p.0 x (put_part xs p) lt)

-- the first that stays is of its revision
later_first : (es : List (ℕ × Mementos)) (p : ℕ × Mementos) → first_of (current (Some p.0) (put_part es p)) ≡ Some p.0
later_first [] p = ap first_of (stays p.0 p [] (omega arith))
later_first (e ∷ es) p =
    elim (nat_cmp p.0 e.0) as (λ o. nat_cmp p.0 e.0 ≡ o → first_of (current (Some p.0) (put_part (e ∷ es) p)) ≡ Some p.0) [
      | Less ↦ λ o.
          let lt : p.0 < e.0 = ranked p.0 e.0 Less (sym o) in
          ap (λ ys. first_of (current (Some p.0) ys)) (put_first e es p lt) ∙ ap first_of (stays p.0 p (e ∷ es) (omega arith))
      | Equal ↦ λ o.
          let same : p.0 ≡ e.0 = ranked p.0 e.0 Equal (sym o) in
          let le : p.0 ≤ e.0 = omega arith in
          ap (λ ys. first_of (current (Some p.0) ys)) (put_same e es p same) ∙ (ap first_of (stays p.0 (e.0, unite e.1 p.1) es le) ∙ ap Some (sym same))
      | Greater ↦ λ o.
          let lt : e.0 < p.0 = ranked p.0 e.0 Greater (sym o) in
          ap (λ ys. first_of (current (Some p.0) ys)) (passed e es p lt) ∙ (ap first_of (goes p.0 e (put_part es p) lt) ∙ later_first es p)
    ] refl

-- ---- two lists in one

put_behind : (xs ys : List (ℕ × Mementos)) (p : ℕ × Mementos) → AreBelow xs (length xs) p.0 → put_part (xs ++ ys) p ≡ xs ++ put_part ys p
put_behind [] ys p h = refl
put_behind (x ∷ xs) ys p h = passed x (xs ++ ys) p (h 0 x (omega arith)) ∙ ap (λ zs. x ∷ zs) (put_behind xs ys p (λ i d lt. h (suc i) d (omega arith)))

put_here : (here : Option (ℕ × Mementos)) (greater : List (ℕ × Mementos)) (p : ℕ × Mementos)
    → MatchOption here (IfSome (first_of greater) (λ n. p.0 < n)) (λ q. q.0 ≡ p.0)
    → put_part (option_to_list here ++ greater) p ≡ with_standing here p ∷ greater
put_here (Some e) greater p same = put_same e greater p (sym same)
put_here None [] p h = refl
put_here None (x ∷ xs) p h = put_first x xs p h

-- a part put between the lesser ones and the greater
pub placed_is : (all lesser greater both : List (ℕ × Mementos)) (here : Option (ℕ × Mementos)) (p q : ℕ × Mementos)
    → IsParted p.0 all lesser here greater → q ≡ with_standing here p → both ≡ lesser ++ q ∷ [] → both ++ greater
    ≡ put_part all p
placed_is all lesser greater both here p q h eq eb =
    ap (λ xs. xs ++ greater) eb ∙ (append_assoc lesser (q ∷ []) greater ∙ (ap (λ (y : ℕ × Mementos). lesser ++ y ∷ greater) eq
    ∙ (sym (put_behind lesser (option_to_list here ++ greater) p h.below
    ∙ ap (λ ys. lesser ++ ys) (put_here here greater p h.at)) ∙ ap (λ xs. put_part xs p) h.whole)))

-- its revision
pub placed_at : (r : ℕ) (all lesser greater : List (ℕ × Mementos)) (here : Option (ℕ × Mementos)) (p : ℕ × Mementos)
    → p.0 ≡ r → IsParted r all lesser here greater → (with_standing here p).0 ≡ r
placed_at r all lesser greater None p e h = e
placed_at r all lesser greater (Some x) p e h = h.at

-- ---- an entry of one revision joined to another

one_at : (t : Bool) (x y : Option Mementos) (s : Mementos) → (t ≡ true → x ≡ y) → cond t (both_held x (Some s)) y ≡ both_held y (cond t (Some s) None)
one_at true x y s h = ap (λ v. both_held v (Some s)) (h refl)
one_at false x None s h = refl
one_at false x (Some y) s h = refl

later_whole : (w : Bool) (m n : ℕ) → m < n → Some n ≡ join_values max (cond w (Some m) None) (Some n)
later_whole true m n lt = let e : n ≡ max m n = omega arith in ap Some e
later_whole false m n lt = refl

module _ (w v : Bool) (e p : ℕ × Mementos) (es : List (ℕ × Mementos)) (a b : Kept) (ea : kept_in w e es ≡ a)
    (eb : kept_in v p [] ≡ b) (rise : PartsRise (e ∷ es)) where
  whole_a : whole a ≡ cond w (Some e.0) None
  whole_a = ap whole (sym ea) ∙ whole_in w e es rise

  whole_b : whole b ≡ cond v (Some p.0) None
  whole_b = ap whole (sym eb) ∙ whole_in v p [] tt

  abbrev greater_whole : Option ℕ
  greater_whole = join_values max (cond w (Some e.0) None) (cond v (Some p.0) None)

  wholes : join_values max (whole a) (whole b) ≡ greater_whole
  wholes = λ i. join_values max (whole_a i) (whole_b i)

  put_held : (q : ℕ) → map.find nat_cmp q (put_part (e ∷ es) p) ≡ both_held (held a q) (held b q)
  put_held q =
      find-put_part q (e ∷ es) p rise
      ∙ (one_at (eq_by_cmp nat_cmp q p.0) (map.find nat_cmp p.0 (e ∷ es)) (map.find nat_cmp q (e ∷ es)) p.1
      (λ t. ap (λ r. map.find nat_cmp r (e ∷ es)) (sym (same_revision q p.0 t)))
      ∙ (λ i. both_held ((sym (held_in w e es q) ∙ ap (λ (k : Kept). held k q) ea) i) ((sym (held_in v p [] q) ∙ ap (λ (k : Kept). held k q) eb) i)))

  -- by what stands at each revision
  join_from_found : (u : Bool) (f : ℕ × Mementos) (fs : List (ℕ × Mementos)) → PartsRise (f ∷ fs)
      → cond u (Some f.0) None ≡ greater_whole
      → ((q : ℕ) → map.find nat_cmp q (f ∷ fs) ≡ cond (not_before greater_whole q)
      (map.find nat_cmp q (put_part (e ∷ es) p)) None) → kept_in u f fs ≡ join_kept a b
  join_from_found u f fs up same h = same_kept _ _
      (whole_in u f fs up ∙ (same ∙ (sym wholes ∙ sym (whole-join_kept a b))))
      (λ q.
      held_in u f fs q ∙ (h q ∙ ((λ i. cond (not_before (sym wholes i) q) (put_held q i) None) ∙ sym (held-join_kept a b q))))

  -- where nothing has to go
  pub join_from_put : (u : Bool) (f : ℕ × Mementos) (fs : List (ℕ × Mementos)) → f ∷ fs ≡ put_part (e ∷ es) p
      → cond u (Some f.0) None ≡ greater_whole → kept_in u f fs ≡ join_kept a b
  join_from_put u f fs put same =
      let up : PartsRise (f ∷ fs) = subst PartsRise (sym put) (rise-put_part (e ∷ es) p rise) in
      let it = kept_in u f fs in
      join_from_found u f fs up same (λ q.
      sym (held_in u f fs q) ∙ (held_from_whole (Some it) q
      ∙ (λ i. cond (not_before ((whole_in u f fs up ∙ same) i) q) ((held_in u f fs q ∙ ap (map.find nat_cmp q) put) i) None)))

  -- where a whole one takes the place of the first and perhaps of later ones
  pub join_from_later : (f : ℕ × Mementos) (fs : List (ℕ × Mementos)) → v ≡ true → e.0 < p.0
      → f ∷ fs ≡ current (Some p.0) (put_part es p) → (PartsRise (f ∷ fs)) × (kept_in true f fs ≡ join_kept a b)
  join_from_later f fs is_whole lt left =
      let first : f.0 ≡ p.0 = same_Some f.0 p.0 (ap first_of left ∙ later_first es p) in
      let up : PartsRise (f ∷ fs) = subst PartsRise (sym left) (rise-current (Some p.0) (put_part es p) (rise-put_part es p (rising_parts e es rise).1)) in
      let same : Some p.0 ≡ greater_whole = later_whole w e.0 p.0 lt
      ∙ ap (λ t. join_values max (cond w (Some e.0) None) (cond t (Some p.0) None)) (sym is_whole) in (
        up,
        join_from_found true f fs up (ap Some first ∙ same) (λ q.
            ap (map.find nat_cmp q) left ∙ (find-current (Some p.0) q (put_part es p)
            ∙ (gone (leb p.0 q) q refl ∙ ap (λ l. cond (not_before l q) (map.find nat_cmp q (put_part (e ∷ es) p)) None) same))),
      )
    where
      gone : (t : Bool) (q : ℕ) → leb p.0 q ≡ t → cond t (map.find nat_cmp q (put_part es p)) None ≡ cond t (map.find nat_cmp q (put_part (e ∷ es) p)) None
      gone true q t =
          let le : p.0 ≤ q = leb-true p.0 q t in
          sym (ap (map.find nat_cmp q) (passed e es p lt)
          ∙ ap (λ b. cond b (Some e.1) (map.find nat_cmp q (put_part es p)))
          (other_revision q e.0 (λ is. absurd (omega arith))))
      gone false q t = refl
