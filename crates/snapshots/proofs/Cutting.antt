-- Entries in order that are cut into several lists make states whose join is theirs.
use Rattle.std.proofs.Common.{◌≡◌, true, false, cond, ◌++◌, map, List, [], ◌∷◌, Option, Some, None, refl, sym, ap, ◌∙◌, subst}
use Rattle.std.specs.Prelude.{T}
use Rattle.std.specs.Ordering.{eq_by_cmp}
use Rattle.std.specs.FinMap as fmap
use Rattle.std.specs.FinMap.Entries.{below_all}
use Rattle.memento_sets.specs.Maps.{join_values}
use Rattle.memento_sets.proofs.Sets.{two_parts, both_parts}
use Rattle.harvest_lattice.specs.Lattice.{Key, key_cmp, Kept, Entries, join_kept, join}
use Rattle.harvest_lattice.proofs.EntryOrder.{key_cmp_total, key_cmp_exact, get-join}
use Rattle.harvest_lattice.proofs.Knowledge.{same_key, below_none}
use Rattle.harvest_lattice.proofs.RowLemmas.{entries_made}
use Rattle.snapshots.specs.Cuts.{state_of, entries_joined, join_all, IsCut}

-- what is behind in order is in order
pub back_rises : (p q : List (Key × Kept)) → T (fmap.is_sorted key_cmp (p ++ q)) → T (fmap.is_sorted key_cmp q)
back_rises [] q h = h
back_rises (e ∷ p) q h = back_rises p q (two_parts (below_all key_cmp e.0 (p ++ q)) (fmap.is_sorted key_cmp (p ++ q)) h).1

front_below : (k : Key) (p q : List (Key × Kept)) → T (below_all key_cmp k (p ++ q)) → T (below_all key_cmp k p)
front_below k [] q h = tt
front_below k (e ∷ p) q h =
    let both = two_parts _ (below_all key_cmp k (p ++ q)) h in
    both_parts _ (below_all key_cmp k p) both.0 (front_below k p q both.1)

pub front_rises : (p q : List (Key × Kept)) → T (fmap.is_sorted key_cmp (p ++ q)) → T (fmap.is_sorted key_cmp p)
front_rises [] q h = tt
front_rises (e ∷ p) q h =
    let both = two_parts (below_all key_cmp e.0 (p ++ q)) (fmap.is_sorted key_cmp (p ++ q)) h in
    both_parts (below_all key_cmp e.0 p) (fmap.is_sorted key_cmp p) (front_below e.0 p q both.0) (front_rises p q both.1)

back_below : (k : Key) (p q : List (Key × Kept)) → T (below_all key_cmp k (p ++ q)) → T (below_all key_cmp k q)
back_below k [] q h = h
back_below k (e ∷ p) q h = back_below k p q (two_parts _ (below_all key_cmp k (p ++ q)) h).1

nothing_first : (o : Option Kept) → join_values join_kept None o ≡ o
nothing_first None = refl
nothing_first (Some a) = refl

-- a key stands in one of two lists that are in order one behind the other
found_once : (k : Key) (p q : List (Key × Kept)) → T (fmap.is_sorted key_cmp (p ++ q))
    → join_values join_kept (fmap.find key_cmp k p) (fmap.find key_cmp k q) ≡ fmap.find key_cmp k (p ++ q)
found_once k [] q h = nothing_first (fmap.find key_cmp k q)
found_once k (e ∷ p) q h =
    let both = two_parts (below_all key_cmp e.0 (p ++ q)) (fmap.is_sorted key_cmp (p ++ q)) h in
    elim (eq_by_cmp key_cmp k e.0) as (λ b. eq_by_cmp key_cmp k e.0 ≡ b
    → join_values join_kept (cond b (Some e.1) (fmap.find key_cmp k p)) (fmap.find key_cmp k q) ≡ cond b (Some e.1) (fmap.find key_cmp k (p ++ q))) [
      | true ↦ λ here.
          let none : fmap.find key_cmp k q ≡ None = ap (λ (x : Key). fmap.find key_cmp x q) (same_key k e.0 here) ∙ below_none e.0 q (back_below e.0 p q both.0) in
          ap (join_values join_kept (Some e.1)) none
      | false ↦ λ _. found_once k p q both.1
    ] refl

two_states : (p q : List (Key × Kept)) → T (fmap.is_sorted key_cmp (p ++ q)) → join (state_of p) (state_of q) ≡ state_of (p ++ q)
two_states p q h = fmap.same_map key_cmp_total key_cmp_exact _ _ (λ k.
    get-join (state_of p) (state_of q) k
    ∙ ((λ i. join_values join_kept (fmap.get-from_entries key_cmp_total p k i) (fmap.get-from_entries key_cmp_total q k i))
    ∙ (found_once k p q h ∙ sym (fmap.get-from_entries key_cmp_total (p ++ q) k))))

nothing_made : fmap.empty ≡ state_of []
nothing_made = fmap.same_map key_cmp_total key_cmp_exact _ _ (λ k. fmap.get-empty key_cmp k ∙ sym (fmap.get-from_entries key_cmp_total [] k))

-- the states of all lists
pub all_states : (parts : List (List (Key × Kept))) → T (fmap.is_sorted key_cmp (entries_joined parts)) → join_all (map state_of parts) ≡ state_of (entries_joined parts)
all_states [] h = nothing_made
all_states (p ∷ ps) h = ap (join (state_of p)) (all_states ps (back_rises p (entries_joined ps) h)) ∙ two_states p (entries_joined ps) h

-- a state is that of its own entries
own_state : (x : Entries) → state_of (fmap.entries x) ≡ x
own_state x = fmap.same_entries_map (state_of (fmap.entries x)) x (entries_made (fmap.entries x) (fmap.entries_sorted x))

pub cut_joined : (x : Entries) (states : List Entries) → IsCut x states → join_all states ≡ x
cut_joined x states cut =
    let rise : T (fmap.is_sorted key_cmp (entries_joined cut.parts)) = subst (λ (es : List (Key × Kept)). T (fmap.is_sorted key_cmp es)) (sym cut.whole) (fmap.entries_sorted x) in
    ap join_all cut.states_are ∙ (all_states cut.parts rise ∙ (ap state_of cut.whole ∙ own_state x))
