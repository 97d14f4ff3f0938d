-- What walks over the parts of peers' deltas say stays true.
use Rattle.std.proofs.Common.{◌≡◌, ℕ, Bool, true, false, cond, List, Option, Some, None, IfSome, refl, sym, subst, ap, ◌∙◌}
use Rattle.std.specs.Ordering.{nat_cmp, eq_by_cmp}
use Rattle.std.specs.Cmp.{nat_cmp_total, Equal-is}
use Rattle.std.specs.FinMap as map
use Rattle.memento_index.specs.declared.merge.Merge.{Merge}
use Rattle.memento_index.specs.declared.merge.Merge.TheVariants.{State}
use Rattle.harvest_lattice.specs.Lattice.{Entries, AtMost, join}
use Rattle.harvest_lattice.proofs.EntryOrder.{at_most_least, at_most_refl, at_most_trans}
use Rattle.replica_exchange.specs.declared.cursor.Cursor.{Cursor}
use Rattle.replica_exchange.specs.CursorRule.{cursor_after}
use Rattle.replica_exchange.specs.Stamps.{state_after}
use Rattle.delta_parts.specs.declared.part.Part.{Part}
use Rattle.delta_parts.specs.declared.place.Place.{Place}
use Rattle.delta_parts.specs.declared.walk.Walk.{Walk}
use Rattle.delta_parts.specs.PartRule.{AreWalked, IsPartOf, IsReached, fits_part, held_at, walk_after, walk_end}
use Rattle.delta_parts.proofs.PartLemmas.{cursor_more, walk_more, walked_more}
use Rattle.published_index.specs.Batches.{merges_of}
use Rattle.published_index.specs.Cursors.{Histories, HasReached, IsKnown, state_of, with_cursor, with_delta, with_merge, with_publish}
use Rattle.published_index.specs.Views.{MergerView}
use Rattle.published_index.proofs.Reaching.{Reaches, grows, joined, published, reaches_more, state_more}

pub walked_with_merge : (histories : Histories) (m : MergerView) (peer : ℕ) (walk : Option Walk) (merge : Merge) → AreWalked (histories peer) walk (state_of m)
    → AreWalked (histories peer) walk (state_of (with_merge m merge))
walked_with_merge histories m peer walk merge walked = walked_more (histories peer) walk (state_of m) (state_of (with_merge m merge)) (grows m merge) walked

pub walked_with_publish : (histories : Histories) (m : MergerView) (peer : ℕ) (walk : Option Walk) → AreWalked (histories peer) walk (state_of m)
    → AreWalked (histories peer) walk (state_of (with_publish m))
walked_with_publish histories m peer walk walked = subst (λ (l : List Merge). AreWalked (histories peer) walk (state_after l)) (published m) walked

module _ (histories : Histories) (m : MergerView) (peer : ℕ) (walk : Option Walk) (p : Part) (reached : HasReached histories m) (walked : AreWalked (histories peer) walk (state_of m))
    (of : IsPartOf (histories peer) p) (fit : fits_part (map.get m.cursors peer) walk p ≡ true) where
  pub walked_with_part : AreWalked (histories peer) (walk_after walk p) (state_of (with_merge m (State p.delta.state)))
  walked_with_part =
      subst (AreWalked (histories peer) (walk_after walk p)) (sym (joined m peer p.delta))
      (walk_more (histories peer) p of (state_of m) (map.get m.cursors peer) (reached peer) walk walked fit)

  abbrev ended : MergerView
  ended = with_delta m peer (walk_end walk p)

  -- the cursor of the last part
  moves : p.until ≡ None → Reaches histories peer (state_of ended) (cursor_after (map.get m.cursors peer) (walk_end walk p))
  moves last =
      subst (λ (x : Entries). Reaches histories peer x (cursor_after (map.get m.cursors peer) (walk_end walk p))) (sym (joined m peer (walk_end walk p)))
      (subst (λ (o : Option Place). IsReached (histories peer) (held_at (map.get m.cursors peer) walk p o) (join (state_of m) p.delta.state)) last
      (cursor_more (histories peer) p of (state_of m) (map.get m.cursors peer) (reached peer) walk walked fit))

  at_peer : p.until ≡ None → (other : ℕ) (b : Bool) → eq_by_cmp nat_cmp other peer ≡ b
      → IfSome (cond b (Some (cursor_after (map.get m.cursors peer) (walk_end walk p))) (map.get m.cursors other)) (Reaches histories other (state_of ended))
  at_peer last other true is =
      let same : other ≡ peer = map.nat_cmp-IsAntisymmetric other peer ((Equal-is (nat_cmp other peer)).0 is) in
      subst (λ (q : ℕ). Reaches histories q (state_of ended) (cursor_after (map.get m.cursors peer) (walk_end walk p))) (sym same) (moves last)
  at_peer last other false is = reaches_more histories other (state_of m) (state_of ended) (grows m (State p.delta.state)) (map.get m.cursors other) (reached other)

  pub reached_with_last : p.until ≡ None → HasReached histories ended
  reached_with_last last other =
      subst (λ (o : Option Cursor). IfSome o (Reaches histories other (state_of ended)))
      (sym (map.get-insert nat_cmp_total m.cursors peer (cursor_after (map.get m.cursors peer) (walk_end walk p)) other)) (at_peer last other (eq_by_cmp nat_cmp other peer) refl)

  pub reached_with_known_last : p.until ≡ None → IsKnown m p.delta → HasReached histories (with_cursor m peer (walk_end walk p))
  reached_with_known_last last known other =
      let below : AtMost p.delta.state (state_of m) = at_most_trans p.delta.state (state_after (merges_of m.published)) (state_of m) known (state_more (merges_of m.published) m.pending) in
      let back : AtMost (state_of ended) (state_of m) =
      subst (λ (x : Entries). AtMost x (state_of m)) (sym (joined m peer (walk_end walk p))) (at_most_least (state_of m) p.delta.state (state_of m) (at_most_refl (state_of m)) below) in
      reaches_more histories other (state_of ended) (state_of m) back (map.get ended.cursors other) (reached_with_last last other)
