-- What revisions show together, and two entries of which each revision stays.
use Rattle.std.proofs.Common.{◌≡◌, ℕ, zero, suc, ◌+◌, ◌<◌, ◌≤◌, Bool, true, false, cond, ◌||◌, max, map, List, [], ◌∷◌}
use Rattle.std.proofs.Common.{◌++◌, length, take, get_or, Option, Some, None, IfSome, is_some, refl, sym, ap, subst}
use Rattle.std.proofs.Common.{◌∙◌, arith}
use Rattle.std.specs.Prelude.{T, IsTrue}
use Rattle.std.specs.Cmp.{both_ways}
use Rattle.std.proofs.lemmas.Bool.{true≢false, and_from, or_left, or_right, or_cases, leb-true, le-leb}
use Rattle.std.proofs.Common.{inl, inr}
use Rattle.memento_time.specs.declared.mementos.Memento.{Memento}
use Rattle.memento_time.specs.Mementos.{memento_cmp}
use Rattle.memento_sets.specs.Sets as set
use Rattle.memento_sets.proofs.Sets.{contains-empty}
use Rattle.memento_sets.proofs.UnitedLemmas.{or_false}
use Rattle.memento_sets.specs.Maps.{join_values}
use Rattle.memento_sets.specs.MementoSets.{Mementos}
use Rattle.harvest_lattice.specs.Lattice.{Kept, least, whole, held, not_before, join_kept}
use Rattle.harvest_lattice.specs.Knowledge.{mementos_of, union_all}
use Rattle.harvest_lattice.specs.Parts.{AllStay}
use Rattle.harvest_lattice.proofs.Entries.{unite, union_semilattice, union_taken, both_held, same_mementos}
use Rattle.harvest_lattice.proofs.Entries.{contains-union, least_below, whole_below, nb-max, held-join_kept}
use Rattle.harvest_lattice.proofs.KnowledgeShown.{has_at, in_entry, out_entry}

-- ---- revisions one after the other

abbrev set_of : ℕ × Mementos → Mementos
set_of p = p.1

pub shows_first : (p : ℕ × Mementos) → p.1 ≡ union_all (map set_of (p ∷ []))
shows_first p = union_taken p.1 set.empty (λ m has. absurd (true≢false (sym has ∙ contains-empty memento_cmp m)))

one_more : (es : List (ℕ × Mementos)) (p : ℕ × Mementos) → union_all (map set_of (es ++ p ∷ [])) ≡ set.union (union_all (map set_of es)) p.1
one_more [] p = union_semilattice.comm p.1 set.empty
one_more (e ∷ es) p = ap (unite e.1) (one_more es p) ∙ sym (union_semilattice.assoc e.1 (union_all (map set_of es)) p.1)

take_more : (es : List (ℕ × Mementos)) (k : ℕ) (p : ℕ × Mementos) → k < length es → p ≡ get_or es k p → take (suc k) es ≡ take k es ++ p ∷ []
take_more [] k p lt is = absurd (omega arith)
take_more (e ∷ es) zero p lt is = ap (λ (q : ℕ × Mementos). q ∷ []) (sym is)
take_more (e ∷ es) (suc k) p lt is = ap (λ ys. e ∷ ys) (take_more es k p (omega arith) is)

pub shows_more : (e : ℕ × Mementos) (es : List (ℕ × Mementos)) (k : ℕ) (p : ℕ × Mementos) (s : Mementos) → k < length es
    → p ≡ get_or es k p → s ≡ union_all (map set_of (e ∷ take k es)) → set.union s p.1
    ≡ union_all (map set_of (e ∷ take (k + 1) es))
shows_more e es k p s lt is all =
    ap (λ t. set.union t p.1) all
    ∙ (sym (one_more (e ∷ take k es) p) ∙ ap (λ (ys : List (ℕ × Mementos)). union_all (map set_of (e ∷ ys)))
    (sym (take_more es k p lt is) ∙ ap (λ n. take n es) (next k)))
  where
    next : (k : ℕ) → suc k ≡ k + 1
    next k = omega arith

-- ---- two entries

has_some : (v : Option Mementos) (m : Memento) → has_at v m ≡ true → (s : Mementos) × (v ≡ Some s)
has_some None m h = absurd (true≢false (sym h))
has_some (Some s) m h = (s, refl)

has_either : (u v : Option Mementos) (m : Memento) → has_at (both_held u v) m ≡ (has_at u m || has_at v m)
has_either None v m = refl
has_either (Some s) None m = sym (or_false (set.contains s m))
has_either (Some s) (Some t) m = contains-union s t m

tested : (b : Bool) (v : Option Mementos) (m : Memento) → has_at (cond b v None) m ≡ true → has_at v m ≡ true
tested true v m h = h
tested false v m h = absurd (true≢false (sym h))

later_too : (w : Option ℕ) (r q : ℕ) → r ≤ q → IsTrue (not_before w r) → not_before w q ≡ true
later_too None r q le h = refl
later_too (Some l) r q le h = let below : l ≤ r = leb-true l r h in le-leb l q (omega arith)

-- what an entry has isn't older than its own whole revision
own_stays : (a : Kept) (q : ℕ) (s : Mementos) → held a q ≡ Some s → not_before (whole a) q ≡ true
own_stays a q s found =
    elim (whole a) as (λ w. whole a ≡ w → not_before w q ≡ true) [
      | None ↦ λ _. refl
      | Some r ↦ λ is. le-leb r q (whole_below a r q s is found)
    ] refl

-- nor than another that its first revision isn't older than
also_stays : (a : Kept) (w : Option ℕ) → IfSome (least a.revisions) (λ r. IsTrue (not_before w r))
    → (q : ℕ) (s : Mementos) → held a q ≡ Some s → not_before w q ≡ true
also_stays a w h q s found =
    elim (least a.revisions) as (λ l. least a.revisions ≡ l → IfSome l (λ r. IsTrue (not_before w r)) → not_before w q ≡ true) [
      | None ↦ λ is _. absurd (subst (λ l. T (is_some l)) is a.some)
      | Some r ↦ λ is late. later_too w r q (least_below a.revisions r q s is found) late
    ] refl h

module _ (a b : Kept) (all : AllStay a b) (m : Memento) where
  late : (q : ℕ) → not_before (whole a) q ≡ true → not_before (whole b) q ≡ true → not_before (join_values max (whole a) (whole b)) q ≡ true
  late q left right = nb-max (whole a) (whole b) q ∙ and_from (not_before (whole a) q) (not_before (whole b) q) left right

  joined_has : (q : ℕ) → not_before (whole a) q ≡ true → not_before (whole b) q ≡ true
      → (has_at (held a q) m || has_at (held b q) m) ≡ true → set.contains (mementos_of (join_kept a b)) m ≡ true
  joined_has q left right has = in_entry (join_kept a b) m q
      (ap (λ v. has_at v m) (held-join_kept a b q ∙ ap (λ t. cond t (both_held (held a q) (held b q)) None) (late q left right))
      ∙ (has_either (held a q) (held b q) m ∙ has))

  there : set.contains (mementos_of (join_kept a b)) m ≡ true → (set.contains (mementos_of a) m || set.contains (mementos_of b) m) ≡ true
  there h =
      let w = out_entry (join_kept a b) m h in
      let u = held a w.0 in
      let v = held b w.0 in
      let has : has_at (both_held u v) m ≡ true = tested (not_before (join_values max (whole a) (whole b)) w.0)
      (both_held u v) m (ap (λ o. has_at o m) (sym (held-join_kept a b w.0)) ∙ w.1) in
      elim (or_cases (has_at u m) (has_at v m) (sym (has_either u v m) ∙ has)) [
        | inl left ↦ or_left (set.contains (mementos_of a) m) (set.contains (mementos_of b) m) (in_entry a m w.0 left)
        | inr right ↦ or_right (set.contains (mementos_of a) m) (set.contains (mementos_of b) m) (in_entry b m w.0 right)
      ]

  from_left : set.contains (mementos_of a) m ≡ true → set.contains (mementos_of (join_kept a b)) m ≡ true
  from_left h =
      let w = out_entry a m h in
      let s = has_some (held a w.0) m w.1 in
      joined_has w.0 (own_stays a w.0 s.0 s.1) (also_stays a (whole b) all.left w.0 s.0 s.1) (or_left (has_at (held a w.0) m) (has_at (held b w.0) m) w.1)

  from_right : set.contains (mementos_of b) m ≡ true → set.contains (mementos_of (join_kept a b)) m ≡ true
  from_right h =
      let w = out_entry b m h in
      let s = has_some (held b w.0) m w.1 in
      joined_has w.0 (also_stays b (whole a) all.right w.0 s.0 s.1) (own_stays b w.0 s.0 s.1) (or_right (has_at (held a w.0) m) (has_at (held b w.0) m) w.1)

  back : (set.contains (mementos_of a) m || set.contains (mementos_of b) m) ≡ true → set.contains (mementos_of (join_kept a b)) m ≡ true
  back h =
      elim (or_cases (set.contains (mementos_of a) m) (set.contains (mementos_of b) m) h) [
        | inl left ↦ from_left left
        | inr right ↦ from_right right
      ]

pub shown_of_both : (a b : Kept) → AllStay a b → mementos_of (join_kept a b) ≡ set.union (mementos_of a) (mementos_of b)
shown_of_both a b all = same_mementos _ _ (λ m. both_ways _ _ (there a b all m) (back a b all m) ∙ sym (contains-union (mementos_of a) (mementos_of b) m))
