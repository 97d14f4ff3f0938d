-- Parts that wait behind the lists that are made, which of them are current, and one revision taken in by an entry.
use Rattle.std.proofs.Common.{◌≡◌, ℕ, zero, suc, ◌+◌, ◌<◌, ◌≤◌, Bool, true, false, cond, leb, ◌||◌, max, List, []}
use Rattle.std.proofs.Common.{◌∷◌, ◌++◌, length, take, drop, get_or, reverse, Option, Some, None, IfSome, Result, Ok}
use Rattle.std.proofs.Common.{Err, OnOk, OnErr, refl, sym, ap, subst, ◌∙◌, arith, append_assoc, append-nil}
use Rattle.std.specs.Prelude.{T, slice_get}
use Rattle.std.specs.List.{All}
use Rattle.std.specs.Ordering.{eq_by_cmp, nat_cmp}
use Rattle.std.specs.FinMap as map
use Rattle.std.proofs.lemmas.Bool.{true≢false, leb-true}
use Rattle.std.proofs.lemmas.Bool.Decides.{nat_tests}
use Rattle.std.proofs.lemmas.List.{reverse-append, get_or_default, nil_from_length}
use Rattle.std.proofs.lemmas.List.Elements.{All-push}
use Rattle.std.proofs.lemmas.Option.{none-some, same_Some}
use Rattle.memento_sets.specs.Maps.{join_values}
use Rattle.memento_sets.specs.MementoSets.{Mementos}
use Rattle.harvest_lattice.specs.Lattice.{Kept, first_of, whole, held, not_before, IsNoLater, IsWithin, join_kept}
use Rattle.harvest_lattice.specs.Parts.{PartsRise, IsParted, kept_in, put_part, put_parts, current, with_standing}
use Rattle.harvest_lattice.proofs.EntryOrder.{entry_semilattice, join_from_at_most}
use Rattle.harvest_lattice.proofs.Entries.{unite, same_revision}
use Rattle.harvest_lattice.proofs.Parts.{held_in, whole_in, len_of_it, passed, whole_of_two}
use Rattle.harvest_lattice.proofs.Parts.{rise-put_part}
use Rattle.harvest_lattice.proofs.PartLists.{risen, put_same, put_first, placed_at, join_from_put}

-- ---- parts that wait, the least of them last

pub top_first : (rest waiting : List (ℕ × Mementos)) (next : ℕ × Mementos) → waiting ≡ rest ++ next ∷ [] → reverse waiting ≡ next ∷ reverse rest
top_first rest waiting next is = ap (λ (ys : List (ℕ × Mementos)). reverse ys) is ∙ reverse-append rest (next ∷ [])

pub reversed_twice : (xs : List (ℕ × Mementos)) → reverse (reverse xs) ≡ xs
reversed_twice [] = refl
reversed_twice (x ∷ xs) = ap (λ (ys : List (ℕ × Mementos)). reverse ys) (reverse-append (x ∷ []) xs)
    ∙ (reverse-append (reverse xs) (x ∷ []) ∙ ap (λ (ys : List (ℕ × Mementos)). x ∷ ys) (reversed_twice xs))

pub moved : (both waiting rest pushed all : List (ℕ × Mementos)) (next : ℕ × Mementos) → waiting ≡ rest ++ next ∷ []
    → pushed ≡ both ++ next ∷ [] → both ++ reverse waiting ≡ all → pushed ++ reverse rest ≡ all
moved both waiting rest pushed all next is put h =
    ap (λ xs. xs ++ reverse rest) put ∙ (append_assoc both (next ∷ []) (reverse rest) ∙ (ap (λ xs. both ++ xs) (sym (top_first rest waiting next is)) ∙ h))

pub parted_here : (r : ℕ) (both waiting rest all : List (ℕ × Mementos)) (next : ℕ × Mementos)
    → waiting ≡ rest ++ next ∷ [] → both ++ reverse waiting ≡ all → All (λ (p : ℕ × Mementos). p.0 < r) both
    → next.0 ≡ r → IsParted r all both (Some next) (reverse rest)
parted_here r both waiting rest all next is h below same = record {
  whole = ap (λ xs. both ++ xs) (sym (top_first rest waiting next is)) ∙ h;
  below = below;
  at = same;
}

pub parted_greater : (r : ℕ) (both waiting rest again all : List (ℕ × Mementos)) (next : ℕ × Mementos)
    → waiting ≡ rest ++ next ∷ [] → again ≡ rest ++ next ∷ [] → both ++ reverse waiting ≡ all
    → All (λ (p : ℕ × Mementos). p.0 < r) both → r < next.0 → IsParted r all both None (reverse again)
parted_greater r both waiting rest again all next is back h below lt = record {
  whole = ap (λ xs. both ++ reverse xs) (back ∙ sym is) ∙ h;
  below = below;
  at = subst (λ (xs : List (ℕ × Mementos)). IfSome (first_of xs) (λ n. r < n)) (sym (top_first rest again next back)) lt;
}

pub parted_end : (r : ℕ) (both waiting rest all : List (ℕ × Mementos)) → waiting ≡ rest ++ [] → rest ≡ []
    → both ++ reverse waiting ≡ all → All (λ (p : ℕ × Mementos). p.0 < r) both → IsParted r all both None (reverse rest)
parted_end r both waiting rest all is none h below = record {
  whole = ap (λ (xs : List (ℕ × Mementos)). both ++ reverse xs) (sym (is ∙ append-nil rest)) ∙ h;
  below = below;
  at = subst (λ (xs : List (ℕ × Mementos)). IfSome (first_of (reverse xs)) (λ n. r < n)) (sym none) tt;
}

-- the list after one more part is placed
pub one_more_placed : (both waiting placed left coming all : List (ℕ × Mementos)) (i : ℕ) (p : ℕ × Mementos)
    → i < length coming → p ≡ get_or coming i p → placed ++ reverse left ≡ put_part (both ++ reverse waiting) p
    → put_parts (both ++ reverse waiting) (drop i coming) ≡ all
    → put_parts (placed ++ reverse left) (drop (i + 1) coming) ≡ all
one_more_placed both waiting placed left coming all i p lt is put h =
    ap (λ xs. put_parts xs (drop (i + 1) coming)) put
    ∙ (ap (put_parts (both ++ reverse waiting)) (sym (next_of coming i p lt is ∙ ap (λ n. p ∷ drop n coming) (sym (next i)))) ∙ h)
  where
    next : (i : ℕ) → i + 1 ≡ suc i
    next i = omega arith

    next_of : (xs : List (ℕ × Mementos)) (i : ℕ) (p : ℕ × Mementos) → i < length xs → p ≡ get_or xs i p → drop i xs ≡ p ∷ drop (suc i) xs
    next_of [] i p lt is = absurd (omega arith)
    next_of (x ∷ xs) zero p lt is = ap (λ (y : ℕ × Mementos). y ∷ xs) (sym is)
    next_of (x ∷ xs) (suc i) p lt is = next_of xs i p (omega arith) is

pub still_below : (placed coming : List (ℕ × Mementos)) (i : ℕ) (p : ℕ × Mementos) → PartsRise coming
    → i < length coming → p ≡ get_or coming i p → All (λ (q : ℕ × Mementos). q.0 ≤ p.0) placed
    → (k j : ℕ) (d : ℕ × Mementos) → k < length placed → i + 1 ≤ j → j < length coming
    → (get_or placed k d).0 < (get_or coming j d).0
still_below placed coming i p rise lt is last k j d in_placed later in_coming =
    let less : (get_or coming i d).0 < (get_or coming j d).0 = risen coming rise i j d (omega arith) in_coming in
    let here : p ≡ get_or coming i d = is ∙ get_or_default coming i p d lt in
    let le : (get_or placed k d).0 ≤ p.0 = last k d in_placed in
    omega (arith, less, le, ap (λ (q : ℕ × Mementos). q.0) here)

pub all_placed : (both waiting turned placed coming all : List (ℕ × Mementos)) (i : ℕ) → length coming ≤ i
    → turned ≡ reverse waiting → placed ≡ both ++ turned → put_parts (both ++ reverse waiting) (drop i coming) ≡ all
    → placed ≡ all
all_placed both waiting turned placed coming all i past turn put h =
    put ∙ (ap (λ xs. both ++ xs) turn ∙ (sym (ap (put_parts (both ++ reverse waiting)) (nothing_left coming i past)) ∙ h))
  where
    nothing_left : (xs : List (ℕ × Mementos)) (i : ℕ) → length xs ≤ i → drop i xs ≡ []
    nothing_left [] zero le = refl
    nothing_left [] (suc i) le = refl
    nothing_left (x ∷ xs) zero le = absurd (omega arith)
    nothing_left (x ∷ xs) (suc i) le = nothing_left xs i (omega arith)

-- ---- the current ones of the first k

one_more : (w : Option ℕ) (es : List (ℕ × Mementos)) (k : ℕ) (p : ℕ × Mementos) → slice_get es k ≡ Some p
    → current w (take (suc k) es) ≡ current w (take k es) ++ current w (p ∷ [])
one_more w [] k p is = absurd (none-some p is)
one_more w (e ∷ es) zero p is = ap (λ (q : ℕ × Mementos). current w (q ∷ [])) (same_Some e p is)
one_more w (e ∷ es) (suc k) p is = beside_it (not_before w e.0) e (current w (take (suc k) es)) (current w (take k es))
    (current w (p ∷ [])) (one_more w es k p is)
  where
    beside_it : (t : Bool) (e : ℕ × Mementos) (xs ys zs : List (ℕ × Mementos)) → xs ≡ ys ++ zs → cond t (e ∷ xs) xs ≡ cond t (e ∷ ys) ys ++ zs
    beside_it true e xs ys zs h = ap (λ ws. e ∷ ws) h
    beside_it false e xs ys zs h = h

pub one_more_current : (w : Option ℕ) (es : List (ℕ × Mementos)) (k : ℕ) (p : ℕ × Mementos) → slice_get es k ≡ Some p
    → current w (take (k + 1) es) ≡ current w (take k es) ++ current w (p ∷ [])
one_more_current w es k p is = ap (λ n. current w (take n es)) (next k) ∙ one_more w es k p is
  where
    next : (k : ℕ) → k + 1 ≡ suc k
    next k = omega arith

pub taken_all : (es : List (ℕ × Mementos)) (k : ℕ) → length es ≤ k → take k es ≡ es
taken_all [] zero le = refl
taken_all [] (suc k) le = refl
taken_all (e ∷ es) zero le = absurd (omega arith)
taken_all (e ∷ es) (suc k) le = ap (λ ys. e ∷ ys) (taken_all es k (omega arith))

-- ---- an older revision that comes

older_whole : (v : Bool) (l : Option ℕ) (r : ℕ) → not_before l r ≡ false → IsNoLater (cond v (Some r) None) l
older_whole false l r h = tt
older_whole true None r h = absurd (true≢false h)
older_whole true (Some n) r h = no_less n r h
  where
    no_less : (n r : ℕ) → leb n r ≡ false → r ≤ n
    no_less n r h = grind (arith, nat_tests)

pub older_joined : (v : Bool) (p : ℕ × Mementos) (a b : Kept) → kept_in v p [] ≡ b → not_before (whole a) p.0 ≡ false → a ≡ join_kept a b
older_joined v p a b eb old =
    let one : whole b ≡ cond v (Some p.0) None = ap whole (sym eb) ∙ whole_in v p [] tt in
    sym (entry_semilattice.comm a b ∙ join_from_at_most b a (record {
      by_whole = subst (λ l. IsNoLater l (whole a)) (sym one) (older_whole v (whole a) p.0 old);
      by_revision = λ r late. subst (λ s. IsWithin s (held a r)) (sym (ap (λ (k : Kept). held k r) (sym eb) ∙ held_in v p [] r))
          (elim (eq_by_cmp nat_cmp r p.0) as (λ t. eq_by_cmp nat_cmp r p.0 ≡ t → IsWithin (cond t (Some p.1) None) (held a r)) [
            | true ↦ λ t. absurd (true≢false (sym late ∙ (ap (not_before (whole a)) (same_revision r p.0 t) ∙ old)))
            | false ↦ λ _. tt
          ] refl);
    }))

-- ---- the one revision of an entry

pub alone_of_it : (w : Bool) (e : ℕ × Mementos) (es : List (ℕ × Mementos)) (x : Kept) → kept_in w e es ≡ x
    → PartsRise (e ∷ es) → map.len x.revisions ≡ 1 → es ≡ []
alone_of_it w e es x is rise one =
    let len : map.len x.revisions ≡ length es + 1 = len_of_it w e es x is rise in
    nil_from_length es (omega arith)

pub len_of_one : (w : Bool) (e : ℕ × Mementos) (es : List (ℕ × Mementos)) (x : Kept) → kept_in w e es ≡ x
    → PartsRise (e ∷ es) → es ≡ [] → map.len x.revisions ≡ 1
len_of_one w e es x is rise none =
    let len : map.len x.revisions ≡ length es + 1 = len_of_it w e es x is rise in
    len ∙ ap (λ (xs : List (ℕ × Mementos)). length xs + 1) none

-- ---- what a part is put behind

pub below_next : (both coming : List (ℕ × Mementos)) (i : ℕ) (p : ℕ × Mementos) → i < length coming
    → p ≡ get_or coming i p → ((k j : ℕ) (d : ℕ × Mementos) → k < length both → i ≤ j → j < length coming
    → (get_or both k d).0 < (get_or coming j d).0) → All (λ (q : ℕ × Mementos). q.0 < p.0) both
below_next both coming i p lt is below k d in_both =
    subst (λ n. (get_or both k d).0 < n) (sym (ap (λ (q : ℕ × Mementos). q.0) (is ∙ get_or_default coming i p d lt))) (below k i d in_both (omega arith) lt)

pub all_up_to : (r : ℕ) (all lesser greater pushed : List (ℕ × Mementos)) (here : Option (ℕ × Mementos))
    (p q : ℕ × Mementos) → p.0 ≡ r → IsParted r all lesser here greater → q ≡ with_standing here p
    → pushed ≡ lesser ++ q ∷ [] → All (λ (x : ℕ × Mementos). x.0 ≤ p.0) pushed
all_up_to r all lesser greater pushed here p q e h eq eb =
    let top : q.0 ≡ r = ap (λ (y : ℕ × Mementos). y.0) eq ∙ placed_at r all lesser greater here p e h in
    let last : q.0 ≤ p.0 = omega (arith, top, e) in
    subst (All (λ (x : ℕ × Mementos). x.0 ≤ p.0)) (sym eb)
    (All-push (λ (x : ℕ × Mementos). x.0 ≤ p.0) lesser q (λ k d lt. let less : (get_or lesser k d).0 < r =
    h.below k d lt in omega (arith, less, e)) last)

-- ---- one revision taken in by an entry

alone_is : (v : Bool) (r : ℕ) → cond v (Some r) None ≡ join_values max None (cond v (Some r) None)
alone_is true r = refl
alone_is false r = refl

module _ (w v : Bool) (e p : ℕ × Mementos) (es : List (ℕ × Mementos)) (a b : Kept) (ea : kept_in w e es ≡ a)
    (eb : kept_in v p [] ≡ b) (rise : PartsRise (e ∷ es)) where
  -- one that is older than all that stand, none of which is whole
  pub comes_first : not_before (whole a) p.0 ≡ true → p.0 < e.0 → (PartsRise (p ∷ e ∷ es)) × (kept_in v p (e ∷ es) ≡ join_kept a b)
  comes_first late lt = (
    subst PartsRise (put_first e es p lt) (rise-put_part (e ∷ es) p rise),
    join_from_put w v e p es a b ea eb rise v p (e ∷ es) (sym (put_first e es p lt))
        (parts_alone w (sym (ap (λ l. not_before l p.0) (ap whole (sym ea) ∙ whole_in w e es rise)) ∙ late)),
  )
    where
      parts_alone : (t : Bool) → not_before (cond t (Some e.0) None) p.0 ≡ true → cond v (Some p.0) None
          ≡ join_values max (cond t (Some e.0) None) (cond v (Some p.0) None)
      parts_alone true h = let le : e.0 ≤ p.0 = leb-true e.0 p.0 h in absurd (omega arith)
      parts_alone false h = alone_is v p.0

  -- one of the least revision
  pub comes_to_first : p.0 ≡ e.0 → (PartsRise ((e.0, unite e.1 p.1) ∷ es)) × (kept_in (w || v) (e.0, unite e.1 p.1) es ≡ join_kept a b)
  comes_to_first same = (
    rise,
    join_from_put w v e p es a b ea eb rise (w || v) (e.0, unite e.1 p.1) es (sym (put_same e es p same))
        (whole_of_two w v e.0 ∙ ap (λ n. join_values max (cond w (Some e.0) None) (cond v (Some n) None)) (sym same)),
  )

  -- a part behind the least revision
  pub comes_behind : v ≡ false → e.0 < p.0 → (PartsRise (e ∷ put_part es p)) × (kept_in w e (put_part es p) ≡ join_kept a b)
  comes_behind part lt = (
    subst PartsRise (passed e es p lt) (rise-put_part (e ∷ es) p rise),
    join_from_put w v e p es a b ea eb rise w e (put_part es p) (sym (passed e es p lt))
        (still w ∙ ap (λ t. join_values max (cond w (Some e.0) None) (cond t (Some p.0) None)) (sym part)),
  )
    where
      still : (t : Bool) → cond t (Some e.0) None ≡ join_values max (cond t (Some e.0) None) None
      still true = refl
      still false = refl

-- what holds of a list after a call that leaves it as it was where it fails
pub after_either : {T E : Type 0} (r : Result T E) (P : List (ℕ × Mementos) → Type 0)
    (old good new : List (ℕ × Mementos)) → OnOk r (new ≡ good) → OnErr r (new ≡ old) → P good → P old → P new
after_either (Ok x) P old good new is same h g = subst P (sym is) h
after_either (Err e) P old good new is same h g = subst P (sym same) g
