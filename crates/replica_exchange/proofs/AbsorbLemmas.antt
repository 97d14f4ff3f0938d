-- What a merge does to the stamps: its number goes to the keys of what is news, and no other entry changes.
use Rattle.std.proofs.Common.{◌≡◌, ℕ, ◌+◌, Bool, true, false, ◌||◌, cond, ◌++◌, map, List, [], ◌∷◌, Option, Some, None, is_some, Result, Ok, Err, OnOk, refl, sym, ap, subst, ◌∙◌, inl, inr}
use Rattle.std.specs.Prelude.{MatchOption, IfSome}
use Rattle.std.specs.Result.{IsErrAnd}
use Rattle.std.specs.Ordering.{eq_by_cmp}
use Rattle.std.specs.BTreeMap.{IsOrdered}
use Rattle.std.specs.FinMap as fmap
use Rattle.std.proofs.lemmas.Option.{none-some, same_Some}
use Rattle.memento_time.specs.Mementos.{text_cmp}
use Rattle.memento_sets.specs.Maps.{join_values}
use Rattle.harvest_lattice.specs.declared.row.Row.{Row}
use Rattle.harvest_lattice.specs.Lattice.{Key, key_cmp, Kept, Entries, KeptAtMost, IsAtMostAt, join, join_kept}
use Rattle.harvest_lattice.specs.Knowledge.{lat}
use Rattle.harvest_lattice.specs.News.{IsNews}
use Rattle.harvest_lattice.specs.Rows.{row_key, row_entry}
use Rattle.harvest_lattice.proofs.EntryOrder.{entry_semilattice, at_most_from_join, get-join, joined_with_none}
use Rattle.memento_index.specs.declared.merge.Merge.{Merge}
use Rattle.memento_index.specs.Merges.{adds_of}
use Rattle.replica_exchange.specs.Stamps.{Stamps, StampedState, IsRestamped, IsAbsorbed}
use Rattle.replica_exchange.specs.StampShelves.{Shelves, stamps_in, slot, is_among, stamp_after, stamp_in}
use Rattle.replica_exchange.specs.declared.stamped.StampFault.{StampFault}
use Rattle.replica_exchange.specs.declared.stamped.StampFault.TheVariants.{NumbersSpent, NoMemory as OutOfMemory}
use Rattle.replica_exchange.proofs.ShelfLemmas.{get-stamps_in}

-- ---- one row more

pub filled_cond : (b : Bool) (v : ℕ) (o : Option (Option ℕ)) → stamp_in (cond b (Some (Some v)) o) ≡ cond b (Some v) (stamp_in o)
filled_cond true v o = refl
filled_cond false v o = refl

either_way : (b : Bool) (v : Option ℕ) → v ≡ cond b v v
either_way true v = refl
either_way false v = refl

pub restamped_push : (keys : List Key) (key : Key) (number : ℕ) (k : Key) (was : Option ℕ)
    → stamp_after (keys ++ key ∷ []) number k was ≡ cond (eq_by_cmp key_cmp k key) (Some number) (stamp_after keys number k was)
restamped_push [] key number k was =
    elim (eq_by_cmp key_cmp k key) as (λ b. cond (b || false) (Some number) was ≡ cond b (Some number) was) [ true ↦ refl | false ↦ refl ]
restamped_push (q ∷ keys) key number k was =
    elim (eq_by_cmp key_cmp k q) as (λ b. cond (b || is_among (keys ++ key ∷ []) k) (Some number) was ≡ cond (eq_by_cmp key_cmp k key) (Some number) (cond (b || is_among keys k) (Some number) was)) [
      | true ↦ either_way (eq_by_cmp key_cmp k key) (Some number)
      | false ↦ restamped_push keys key number k was
    ]

-- ---- what is news

at_most_where_same : (o : Option Kept) (e : Kept) → join_values join_kept o (Some e) ≡ o → MatchOption o ⊥ (λ b. KeptAtMost e b)
at_most_where_same None e same = absurd (none-some e (sym same))
at_most_where_same (Some a) e same = at_most_from_join e a (entry_semilattice.comm e a ∙ same_Some (join_kept a e) a same)

module _ (x y news : Entries) (is : IsNews x y news) where
  joined : (k : Key) (o : Option Kept) → fmap.get news k ≡ o → fmap.get (join x y) k ≡ join_values join_kept (fmap.get x k) o
  joined k o here = ap (λ (z : Entries). fmap.get z k) (sym is.whole) ∙ (get-join x news k ∙ ap (join_values join_kept (fmap.get x k)) here)

  -- where there is news the entry changes
  changed : (k : Key) (e : Kept) → fmap.get news k ≡ Some e → ¬ (fmap.get (join x y) k ≡ fmap.get x k)
  changed k e here same =
      let differs : IsAtMostAt x (k, e) → ⊥ = subst (λ (o : Option Kept). IfSome o (λ e. IsAtMostAt x (k, e) → ⊥)) here (is.differs k) in
      differs (at_most_where_same (fmap.get x k) e (sym (joined k (Some e) here) ∙ same))

  -- and where there is none it stays
  unchanged : (k : Key) → fmap.get news k ≡ None → fmap.get (join x y) k ≡ fmap.get x k
  unchanged k none = joined k None none ∙ joined_with_none join_kept (fmap.get x k)

-- a key is among those of rows where a row has it
among_rows : (rows : List Row) (k : Key) → is_among (map row_key rows) k ≡ is_some (fmap.find key_cmp k (map row_entry rows))
among_rows [] k = refl
among_rows (row ∷ rows) k =
    elim (eq_by_cmp key_cmp k (row_key row)) as (λ b. (b || is_among (map row_key rows) k) ≡ is_some (cond b (Some (row_entry row).1) (fmap.find key_cmp k (map row_entry rows))))
    [ true ↦ refl | false ↦ among_rows rows k ]

-- the stamps change just where the entries do
pub absorbed : (s t : StampedState) (m : Merge) (news : Entries) (rows : List Row) (keys : List Key) → IsNews s.entries (lat (adds_of m)) news
    → map row_entry rows ≡ fmap.entries news → keys ≡ map row_key rows
    → t.entries ≡ join s.entries news → ((k : Key) → fmap.get t.stamps k ≡ stamp_after keys t.number k (fmap.get s.stamps k))
    → t.number ≡ s.number + 1 → t.incarnation ≡ s.incarnation → IsAbsorbed s m t
absorbed s t m news rows keys is listed of_rows entries stamps number incarnation = record {
  entries = joins;
  stamps = λ k. at k (fmap.get news k) refl;
  number = number;
  incarnation = incarnation;
}
  where
    joins : t.entries ≡ join s.entries (lat (adds_of m))
    joins = entries ∙ is.whole

    has : (k : Key) (o : Option Kept) → fmap.get news k ≡ o → is_among keys k ≡ is_some o
    has k o here = ap (λ (ks : List Key). is_among ks k) of_rows ∙ among_rows rows k ∙ ap is_some (ap (fmap.find key_cmp k) listed ∙ (sym (fmap.get-entries news k) ∙ here))

    stamp : (k : Key) (o : Option Kept) → fmap.get news k ≡ o → fmap.get t.stamps k ≡ cond (is_some o) (Some t.number) (fmap.get s.stamps k)
    stamp k o here = stamps k ∙ ap (λ b. cond b (Some t.number) (fmap.get s.stamps k)) (has k o here)

    now : (k : Key) → fmap.get t.entries k ≡ fmap.get (join s.entries (lat (adds_of m))) k
    now k = ap (λ (z : Entries). fmap.get z k) joins

    at : (k : Key) (o : Option Kept) → fmap.get news k ≡ o → IsRestamped s t k
    at k None here = inl (now k ∙ unchanged s.entries (lat (adds_of m)) news is k here, stamp k None here)
    at k (Some e) here = inr (λ same. changed s.entries (lat (adds_of m)) news is k e here (sym (now k) ∙ same), stamp k (Some e) here)

-- the stamps in slots that were made and then filled for these rows
pub get-restamped : (was : Stamps) (keys : List Key) (number : ℕ) (old made new : Shelves) → stamps_in old ≡ was → IsOrdered text_cmp old → IsOrdered text_cmp new
    → ((k : Key) → stamp_in (slot made k) ≡ stamp_in (slot old k))
    → ((k : Key) → stamp_in (slot new k) ≡ stamp_after keys number k (stamp_in (slot made k))) → (k : Key) → fmap.get (stamps_in new) k ≡ stamp_after keys number k (fmap.get was k)
get-restamped was keys number old made new view h g same stamped k =
    get-stamps_in new g k ∙ (stamped k ∙ ap (stamp_after keys number k) (same k ∙ (sym (get-stamps_in old h k) ∙ ap (λ (s : Stamps). fmap.get s k) view)))

-- ---- a merge that is refused

pub ok_of_refused : {T : Type 0} (P : Type 0) (r : Result T StampFault) → IsErrAnd r (λ e. e ≡ OutOfMemory) → OnOk r P
ok_of_refused P (Ok x) refused = absurd refused
ok_of_refused P (Err e) refused = tt

pub is_not_spent : {T : Type 0} (r : Result T StampFault) → IsErrAnd r (λ e. e ≡ OutOfMemory) → ¬ (r ≡ Err NumbersSpent)
is_not_spent (Ok x) refused same = refused
is_not_spent (Err e) refused same = cc
