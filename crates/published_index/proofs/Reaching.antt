-- What a merger's cursors say stays true.
use Rattle.std.proofs.Common.{◌≡◌, ℕ, ◌≤◌, Bool, true, false, cond, ◌&&◌, ◌==◌, List, [], ◌∷◌, ◌++◌, length, take, take_all, Option, Some, None}
use Rattle.std.proofs.Common.{IfSome, refl, sym, ap, subst, ◌∙◌, append_assoc, append-nil, arith}
use Rattle.std.specs.Prelude.{nat_lt}
use Rattle.std.specs.List.{flat_map}
use Rattle.std.specs.Ordering.{nat_cmp, eq_by_cmp}
use Rattle.std.specs.Cmp.{nat_cmp_total, Equal-is}
use Rattle.std.specs.FinMap as map
use Rattle.std.proofs.lemmas.Bool.Decides.{nat_tests}
use Rattle.std.proofs.lemmas.List.{length-take}
use Rattle.memento_index.specs.declared.merge.Merge.{Merge}
use Rattle.memento_index.specs.declared.merge.Merge.TheVariants.{State}
use Rattle.memento_index.specs.Merges.{adds_of}
use Rattle.harvest_lattice.specs.Lattice.{Entries, AtMost, join}
use Rattle.harvest_lattice.specs.Knowledge.{lat}
use Rattle.harvest_lattice.proofs.EntryOrder.{at_most_least, at_most_left, at_most_refl, at_most_right, at_most_trans}
use Rattle.harvest_lattice.proofs.Knowledge.{lat-adds}
use Rattle.harvest_lattice.proofs.KnowledgeShown.{at_most_nil}
use Rattle.replica_exchange.specs.declared.cursor.Cursor.{Cursor}
use Rattle.replica_exchange.specs.declared.delta.Delta.{Delta}
use Rattle.replica_exchange.specs.Stamps.{StampedState, IsStamped, state_after, entries_above}
use Rattle.replica_exchange.specs.CursorRule.{Held, start_from, fits, cursor_after}
use Rattle.replica_exchange.proofs.StampLemmas.{state_append, state_push, take_take, prefixes_at_most, above_suffices}
use Rattle.published_index.specs.Batches.{merges_of}
use Rattle.published_index.specs.Cursors.{Histories, IsDeltaOf, IsKnown, HasReached, state_of, with_cursor, with_merge, with_delta, with_publish}
use Rattle.published_index.specs.Views.{MergerView}
use Rattle.published_index.proofs.Folding.{merges-append}
use Rattle.replica_events.proofs.Sound.{start_within}

-- ---- more merges

pub state_more : (ms ns : List Merge) → AtMost (state_after ms) (state_after (ms ++ ns))
state_more ms ns = subst (λ (x : Entries). AtMost (state_after ms) x) (sym (state_append ms ns)) (at_most_left (state_after ms) (lat (flat_map adds_of ns)))

-- that a cursor is reached by a state
abbrev pub Reaches : Histories → ℕ → Entries → Cursor → Type 0
Reaches histories peer x c = AtMost (state_after (take c.number (histories peer c.incarnation))) x

pub reaches_more : (histories : Histories) (peer : ℕ) (x y : Entries) → AtMost x y → (o : Option Cursor) → IfSome o (Reaches histories peer x) → IfSome o (Reaches histories peer y)
reaches_more histories peer x y more None reached = tt
reaches_more histories peer x y more (Some c) reached = at_most_trans (state_after (take c.number (histories peer c.incarnation))) x y reached more

pub reached_by_none : (histories : Histories) (m : MergerView) → m.cursors ≡ map.empty → HasReached histories m
reached_by_none histories m none peer =
    subst (λ (o : Option Cursor). IfSome o (Reaches histories peer (state_of m))) (sym (ap (λ (h : Held). map.get h peer) none ∙ map.get-empty nat_cmp peer)) tt

appended : (m : MergerView) (merge : Merge) → merges_of m.published ++ (m.pending ++ merge ∷ []) ≡ (merges_of m.published ++ m.pending) ++ merge ∷ []
appended m merge = sym (append_assoc (merges_of m.published) m.pending (merge ∷ []))

pub grows : (m : MergerView) (merge : Merge) → AtMost (state_of m) (state_of (with_merge m merge))
grows m merge = subst (λ (l : List Merge). AtMost (state_of m) (state_after l)) (sym (appended m merge)) (state_more (merges_of m.published ++ m.pending) (merge ∷ []))

pub reached_with_merge : (histories : Histories) (m : MergerView) (merge : Merge) → HasReached histories m → HasReached histories (with_merge m merge)
reached_with_merge histories m merge reached peer =
    reaches_more histories peer (state_of m) (state_of (with_merge m merge)) (grows m merge) (map.get m.cursors peer) (reached peer)

pub published : (m : MergerView) → merges_of m.published ++ m.pending ≡ merges_of (m.published ++ m.pending ∷ []) ++ []
published m = sym (merges-append m.published m.pending) ∙ sym (append-nil (merges_of (m.published ++ m.pending ∷ [])))

pub reached_with_publish : (histories : Histories) (m : MergerView) → HasReached histories m → HasReached histories (with_publish m)
reached_with_publish histories m reached peer =
    subst (λ (l : List Merge). IfSome (map.get m.cursors peer) (Reaches histories peer (state_after l))) (published m) (reached peer)

-- ---- a delta more

-- the first merges of a list are the first so many of it
take_counted : (ms : List Merge) (count : ℕ) → take (length (take count ms)) ms ≡ take count ms
take_counted ms count =
    let short : length (take count ms) ≤ count = let l = length-take count ms in omega (arith, l) in
    sym (take_take ms (length (take count ms)) count short) ∙ take_all (length (take count ms)) (take count ms) (omega arith)

-- where a state has what the merges before the delta's start made, it has with the delta all that those before its end
-- made
module _ (ms : List Merge) (count : ℕ) (s : StampedState) (is : IsStamped (take count ms) s) where
  counted : take s.number ms ≡ take count ms
  counted = ap (λ (n : ℕ). take n ms) is.number ∙ take_counted ms count

  delta_reaches : (start : ℕ) (x : Entries) → start ≤ s.number → AtMost (state_after (take start ms)) x → AtMost (state_after (take s.number ms)) (join x (entries_above s start))
  delta_reaches start x within held =
      let short : start ≤ count = let l = length-take count ms in let n = is.number in omega (arith, l, n, within) in
      let before : AtMost (state_after (take start (take count ms))) x = subst (λ (l : List Merge). AtMost (state_after l) x) (sym (take_take ms start count short)) held in
      let whole = above_suffices (take count ms) s start x is before in
      subst (λ (y : Entries). AtMost (state_after (take s.number ms)) y) (sym whole)
      (subst (λ (l : List Merge). AtMost (state_after l) (join x (state_after (take count ms)))) (sym counted) (at_most_right x (state_after (take count ms))))

-- what the merger has with the delta's state
pub joined : (m : MergerView) (peer : ℕ) (d : Delta) → state_of (with_delta m peer d) ≡ join (state_of m) d.state
joined m peer d =
    ap state_after (appended m (State d.state))
    ∙ (state_push (merges_of m.published ++ m.pending) (State d.state) ∙ ap (join (state_of m)) (lat-adds d.state))

module _ (histories : Histories) (m : MergerView) (peer : ℕ) (d : Delta) where
  abbrev grown : Entries
  grown = state_of (with_delta m peer d)

  more : AtMost (state_of m) grown
  more = grows m (State d.state)

  -- a delta that is taken starts at what the merger has
  has_start : (held : Option Cursor) → IfSome held (Reaches histories peer (state_of m)) → fits held d ≡ true → AtMost (state_after (take d.start (histories peer d.incarnation))) (state_of m)
  has_start None reached fit =
      let zero : d.start ≡ 0 = grind (arith, nat_tests) in
      subst (λ (n : ℕ). AtMost (state_after (take n (histories peer d.incarnation))) (state_of m)) (sym zero) (at_most_nil (state_of m))
  has_start (Some c) reached fit = on (d.start == 0) refl
    where
      on : (b : Bool) → (d.start == 0) ≡ b → AtMost (state_after (take d.start (histories peer d.incarnation))) (state_of m)
      on true is =
          let zero : d.start ≡ 0 = grind (arith, nat_tests) in
          subst (λ (n : ℕ). AtMost (state_after (take n (histories peer d.incarnation))) (state_of m)) (sym zero) (at_most_nil (state_of m))
      on false is =
          let own : c.incarnation ≡ d.incarnation = grind (arith, nat_tests) in
          let le : d.start ≤ c.number = grind (arith, nat_tests) in
          let ms : List Merge = histories peer d.incarnation in
          at_most_trans (state_after (take d.start ms)) (state_after (take c.number ms)) (state_of m) (prefixes_at_most ms d.start c.number le)
          (subst (λ (i : ℕ). AtMost (state_after (take c.number (histories peer i))) (state_of m)) own reached)

  module _ (of : IsDeltaOf histories peer d) where
    -- with its state the merger has all that the delta tells of
    has_end : AtMost (state_after (take d.start (histories peer d.incarnation))) (state_of m) → AtMost (state_after (take d.end (histories peer d.incarnation))) grown
    has_end start =
        let ms : List Merge = histories peer d.incarnation in
        let s = of.stamped in
        let from : ℕ = start_from s of.cursor in
        let before : AtMost (state_after (take from ms)) (state_of m) = subst (λ (n : ℕ). AtMost (state_after (take n ms)) (state_of m)) (ap (λ (e : Delta). e.start) of.is) start in
        let reaches = delta_reaches ms of.count s of.merges from (state_of m) (start_within s of.cursor) before in
        subst (λ (n : ℕ). AtMost (state_after (take n ms)) grown) (sym (ap (λ (e : Delta). e.end) of.is))
        (subst (λ (x : Entries). AtMost (state_after (take s.number ms)) x) (sym (joined m peer d ∙ ap (λ (e : Delta). join (state_of m) e.state) of.is)) reaches)

    moves : (held : Option Cursor) → IfSome held (Reaches histories peer (state_of m)) → fits held d ≡ true → Reaches histories peer grown (cursor_after held d)
    moves None reached fit = has_end (has_start None reached fit)
    moves (Some c) reached fit = on ((c.incarnation == d.incarnation) && nat_lt d.end c.number)
      where
        on : (b : Bool) → Reaches histories peer grown (cond b c (record { incarnation = d.incarnation; number = d.end }))
        on true = reaches_more histories peer (state_of m) grown more (Some c) reached
        on false = has_end (has_start (Some c) reached fit)

    at_peer : HasReached histories m → fits (map.get m.cursors peer) d ≡ true → (other : ℕ) (b : Bool) → eq_by_cmp nat_cmp other peer ≡ b
        → IfSome (cond b (Some (cursor_after (map.get m.cursors peer) d)) (map.get m.cursors other)) (Reaches histories other grown)
    at_peer reached fit other true is =
        let same : other ≡ peer = map.nat_cmp-IsAntisymmetric other peer ((Equal-is (nat_cmp other peer)).0 is) in
        subst (λ (p : ℕ). Reaches histories p grown (cursor_after (map.get m.cursors peer) d)) (sym same) (moves (map.get m.cursors peer) (reached peer) fit)
    at_peer reached fit other false is = reaches_more histories other (state_of m) grown more (map.get m.cursors other) (reached other)

    pub reached_with_delta : HasReached histories m → fits (map.get m.cursors peer) d ≡ true → HasReached histories (with_delta m peer d)
    reached_with_delta reached fit other =
        subst (λ (o : Option Cursor). IfSome o (Reaches histories other grown)) (sym (map.get-insert nat_cmp_total m.cursors peer (cursor_after (map.get m.cursors peer) d) other))
        (at_peer reached fit other (eq_by_cmp nat_cmp other peer) refl)

    -- what is published already makes it no greater, so the cursor may stand as far
    pub reached_with_cursor : HasReached histories m → fits (map.get m.cursors peer) d ≡ true → IsKnown m d → HasReached histories (with_cursor m peer d)
    reached_with_cursor reached fit known other =
        let below : AtMost d.state (state_of m) = at_most_trans d.state (state_after (merges_of m.published)) (state_of m) known (state_more (merges_of m.published) m.pending) in
        let back : AtMost grown (state_of m) =
        subst (λ (x : Entries). AtMost x (state_of m)) (sym (joined m peer d)) (at_most_least (state_of m) d.state (state_of m) (at_most_refl (state_of m)) below) in
        reaches_more histories other grown (state_of m) back (map.get (with_delta m peer d).cursors other) (reached_with_delta reached fit other)
