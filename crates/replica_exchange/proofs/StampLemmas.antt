-- The one stamp of a key, what another merge does to it, and the entries above a number.
use Rattle.std.proofs.Common.{◌≡◌, ℕ, zero, suc, ◌+◌, ◌<◌, ◌≤◌, Bool, true, false, cond, List, [], ◌∷◌, ◌++◌, length, take, drop, take_all, Option, Some, None, refl, sym, ap}
use Rattle.std.proofs.Common.{subst, ◌∙◌, append-nil, inl, inr, ◌⊎◌, arith}
use Rattle.std.specs.Prelude.{IsSome, nat_lt}
use Rattle.std.specs.List.{flat_map, filter}
use Rattle.std.specs.FinMap.Entries.{same_entries, where_key, is_sorted-where_key, find-where_key}
use Rattle.std.specs.FinMap as map
use Rattle.std.specs.declared.cmp.Ordering.TheVariants.{Equal}
use Rattle.std.proofs.lemmas.Grind.{flat_map-append}
use Rattle.std.proofs.lemmas.List.{take-append-drop, take-append-le, length_push}
use Rattle.std.proofs.lemmas.Option.{none-some}
use Rattle.std.proofs.lemmas.Bool.{cases_lt, lt-ltb, ltb-false}
use Rattle.memento_index.specs.declared.merge.Merge.{Merge}
use Rattle.memento_sets.specs.Maps.{join_values}
use Rattle.memento_sets.proofs.Semilattice.{join_antisymm, values_semilattice}
use Rattle.harvest_lattice.specs.Lattice.{Key, key_cmp, Kept, Entries, AtMost, join, join_kept}
use Rattle.harvest_lattice.specs.Knowledge.{lat}
use Rattle.memento_index.specs.Merges.{adds_of}
use Rattle.harvest_lattice.proofs.EntryOrder.{key_cmp_total, key_cmp_exact, entry_semilattice, get-join, joined_at_most, at_most_left, joined_with_none}
use Rattle.harvest_lattice.proofs.Knowledge.{lat-append, get-lat_nil}
use Rattle.replica_exchange.specs.Stamps.{state_after, kept_after, IsSettled, IsStamp, StampedState, IsStampAt, IsStamped, IsRestamped, IsAbsorbed, is_above, above, entries_above}

empty_is : (let e : Entries = map.empty in e) ≡ state_after []
unfolding lat
empty_is = refl

-- ---- states grow

pub state_append : (ms ns : List Merge) → state_after (ms ++ ns) ≡ join (state_after ms) (lat (flat_map adds_of ns))
state_append ms ns = ap (λ hs. lat hs) (flat_map-append adds_of ms ns) ∙ lat-append (flat_map adds_of ms) (flat_map adds_of ns)

pub state_push : (ms : List Merge) (m : Merge) → state_after (ms ++ m ∷ []) ≡ join (state_after ms) (lat (adds_of m))
state_push ms m = state_append ms (m ∷ []) ∙ ap (λ hs. join (state_after ms) (lat hs)) (append-nil (adds_of m))

pub prefix_at_most : (ms : List Merge) (n : ℕ) → AtMost (state_after (take n ms)) (state_after ms)
prefix_at_most ms n =
    subst (λ (x : Entries). AtMost (state_after (take n ms)) x)
    (sym (state_append (take n ms) (drop n ms)) ∙ ap state_after (take-append-drop n ms))
    (at_most_left (state_after (take n ms)) (lat (flat_map adds_of (drop n ms))))

-- a shorter prefix is a prefix of a longer one
pub take_take : (ms : List Merge) (n more : ℕ) → n ≤ more → take n (take more ms) ≡ take n ms
take_take ms zero more le = refl
take_take [] (suc n) more le = ap (take (suc n)) (take_all more [] (omega arith))
take_take (m ∷ ms) (suc n) zero le = absurd (omega (arith, le))
take_take (m ∷ ms) (suc n) (suc more) le = ap (λ (l : List Merge). m ∷ l) (take_take ms n more (omega (arith, le)))

pub prefixes_at_most : (ms : List Merge) (n more : ℕ) → n ≤ more → AtMost (state_after (take n ms)) (state_after (take more ms))
prefixes_at_most ms n more le = subst (λ (l : List Merge). AtMost (state_after l) (state_after (take more ms))) (take_take ms n more le) (prefix_at_most (take more ms) n)

at_key : (x y : Entries) (k : Key) → AtMost x y → join_values join_kept (map.get x k) (map.get y k) ≡ map.get y k
at_key x y k le = sym (get-join x y k) ∙ ap (λ (m : Entries). map.get m k) (joined_at_most x y le)

-- what lies between two that are the same is the same
between : (x y z : Entries) (k : Key) → AtMost x y → AtMost y z → map.get x k ≡ map.get z k → map.get y k ≡ map.get z k
between x y z k xy yz same =
    let lower : join_values join_kept (map.get z k) (map.get y k) ≡ map.get y k = ap (λ o. join_values join_kept o (map.get y k)) (sym same) ∙ at_key x y k xy in
    join_antisymm (values_semilattice entry_semilattice) (map.get y k) (map.get z k) (at_key y z k yz) lower

-- where an entry was once as it is now, it has been so since
pub settled_where_same : (ms : List Merge) (n : ℕ) (k : Key) → kept_after ms n k ≡ map.get (state_after ms) k → IsSettled ms n k
settled_where_same ms n k same more le =
    between (state_after (take n ms)) (state_after (take more ms)) (state_after ms) k (prefixes_at_most ms n more le) (prefix_at_most ms more) same

-- ---- the stamp of a key

pub one_stamp : (ms : List Merge) (k : Key) (a b : ℕ) → IsStamp ms k a → IsStamp ms k b → a ≡ b
one_stamp ms k a b x y = let l = x.shortest b y.settled in let g = y.shortest a x.settled in omega (arith, l, g)

-- at the stamp and from there on the entry is as it is now
pub same_from : (ms : List Merge) (k : Key) (stamp n : ℕ) → IsStamp ms k stamp → stamp ≤ n → kept_after ms n k ≡ map.get (state_after ms) k
same_from ms k stamp n is le = is.settled n le

-- and before it it was another
pub other_before : (ms : List Merge) (k : Key) (stamp n : ℕ) → IsStamp ms k stamp → n < stamp → ¬ (kept_after ms n k ≡ map.get (state_after ms) k)
other_before ms k stamp n is lt same = let le = is.shortest n (settled_where_same ms n k same) in omega (arith, lt, le)

not_both : (o : Option Kept) → o ≡ None → IsSome o → ⊥
not_both None none some = cc
not_both (Some v) none some = cc

-- an entry's stamp is above zero
pub stamp_above_zero : (ms : List Merge) (k : Key) (stamp : ℕ) → IsSome (map.get (state_after ms) k) → IsStamp ms k stamp → 0 < stamp
stamp_above_zero ms k zero there is =
    let none : map.get (state_after ms) k ≡ None = sym (is.settled 0 (omega arith)) ∙ get-lat_nil k in
    absurd (not_both (map.get (state_after ms) k) none there)
stamp_above_zero ms k (suc n) there is = omega arith

-- ---- one merge more

take_all_push : (ms : List Merge) (m : Merge) (n : ℕ) → length ms < n → take n (ms ++ m ∷ []) ≡ ms ++ m ∷ []
take_all_push ms m n over = take_all n (ms ++ m ∷ []) (let l = length_push ms m in omega (arith, l, over))

module _ (ms : List Merge) (m : Merge) (k : Key) where
  -- where it leaves the entry as it was, the stamp stays
  pub stamp_stays : (n : ℕ) → map.get (state_after (ms ++ m ∷ [])) k ≡ map.get (state_after ms) k → IsStamp ms k n → IsStamp (ms ++ m ∷ []) k n
  stamp_stays n same is = record {
    settled = λ more le. settled more le (cases_lt (length ms) more);
    shortest = λ other so. is.shortest other (λ more le. before other so more le (cases_lt (length ms) more));
  }
    where
      settled : (more : ℕ) → n ≤ more → (length ms < more) ⊎ (more ≤ length ms) → kept_after (ms ++ m ∷ []) more k ≡ map.get (state_after (ms ++ m ∷ [])) k
      settled more le (inl over) = ap (λ (l : List Merge). map.get (state_after l) k) (take_all_push ms m more over)
      settled more le (inr within) = ap (λ (l : List Merge). map.get (state_after l) k) (take-append-le more ms (m ∷ []) within) ∙ (is.settled more le ∙ sym same)

      before : (other : ℕ) → IsSettled (ms ++ m ∷ []) other k → (more : ℕ) → other ≤ more → (length ms < more) ⊎ (more ≤ length ms) → kept_after ms more k ≡ map.get (state_after ms) k
      before other so more le (inl over) = ap (λ (l : List Merge). map.get (state_after l) k) (take_all more ms (omega (arith, over)))
      before other so more le (inr within) = ap (λ (l : List Merge). map.get (state_after l) k) (sym (take-append-le more ms (m ∷ []) within)) ∙ (so more le ∙ same)

  -- where it changes the entry, the stamp is the number of merges
  pub stamp_is_new : ¬ (map.get (state_after (ms ++ m ∷ [])) k ≡ map.get (state_after ms) k) → IsStamp (ms ++ m ∷ []) k (length ms + 1)
  stamp_is_new changed = record {
    settled = λ more le. ap (λ (l : List Merge). map.get (state_after l) k) (take_all_push ms m more (omega (arith, le)));
    shortest = λ other so. shortest other so (cases_lt (length ms) other);
  }
    where
      shortest : (other : ℕ) → IsSettled (ms ++ m ∷ []) other k → (length ms < other) ⊎ (other ≤ length ms) → length ms + 1 ≤ other
      shortest other so (inl over) = omega (arith, over)
      shortest other so (inr within) =
          absurd (changed (sym (ap (λ (l : List Merge). map.get (state_after l) k)
          (sym (take-append-le (length ms) ms (m ∷ []) (omega arith) ∙ take_all (length ms) ms (omega arith))) ∙ so (length ms) within)))

-- what absorbs one merge more is what one more made
pub absorbed_is_stamped : (ms : List Merge) (m : Merge) (s t : StampedState) → IsStamped ms s → IsAbsorbed s m t → IsStamped (ms ++ m ∷ []) t
absorbed_is_stamped ms m s t is a = record {
  entries = entries;
  stamps = λ k. at k (a.stamps k);
  number = a.number ∙ (ap (λ (n : ℕ). n + 1) is.number ∙ sym (length_push ms m));
}
  where
    entries : t.entries ≡ state_after (ms ++ m ∷ [])
    entries = a.entries ∙ (ap (λ (e : Entries). join e (lat (adds_of m))) is.entries ∙ sym (state_push ms m))

    count : t.number ≡ length ms + 1
    count = a.number ∙ ap (λ (n : ℕ). n + 1) is.number

    still : (k : Key) (stamp : Option ℕ) → map.get t.entries k ≡ map.get s.entries k → IsStampAt ms s.entries k stamp → IsStampAt (ms ++ m ∷ []) t.entries k stamp
    still k None same none = same ∙ none
    still k (Some n) same there = (
      subst IsSome (sym same) there.0,
      stamp_stays ms m k n (sym (ap (λ (e : Entries). map.get e k) entries) ∙ (same ∙ ap (λ (e : Entries). map.get e k) is.entries)) there.1,
    )

    -- what is kept at a key is never lost
    kept : (k : Key) → ¬ (map.get t.entries k ≡ map.get s.entries k) → IsSome (map.get t.entries k)
    kept k changed =
        some (map.get s.entries k) (map.get t.entries k) (subst (λ (e : Entries). join_values join_kept (map.get s.entries k) (map.get e k) ≡ map.get e k) (sym a.entries)
        (at_key s.entries (join s.entries (lat (adds_of m))) k (at_most_left s.entries (lat (adds_of m))))) changed
      where
        some : (was now : Option Kept) → join_values join_kept was now ≡ now → ¬ (now ≡ was) → IsSome now
        some None None grows other = absurd (other refl)
        some (Some v) None grows other = absurd (none-some v (sym grows))
        some was (Some v) grows other = refl

    new : (k : Key) → ¬ (map.get t.entries k ≡ map.get s.entries k) → IsStampAt (ms ++ m ∷ []) t.entries k (Some t.number)
    new k changed = (
      kept k changed,
      subst (IsStamp (ms ++ m ∷ []) k) (sym count)
          (stamp_is_new ms m k (λ same. changed (ap (λ (e : Entries). map.get e k) entries ∙ (same ∙ ap (λ (e : Entries). map.get e k) (sym is.entries))))),
    )

    at : (k : Key) → IsRestamped s t k → IsStampAt (ms ++ m ∷ []) t.entries k (map.get t.stamps k)
    at k (inl (same, stamp)) = subst (IsStampAt (ms ++ m ∷ []) t.entries k) (sym stamp) (still k (map.get s.stamps k) same (is.stamps k))
    at k (inr (changed, stamp)) = subst (IsStampAt (ms ++ m ∷ []) t.entries k) (sym stamp) (new k changed)

-- nothing was merged at first
pub stamped_at_first : (incarnation : ℕ) → IsStamped [] (record { entries = map.empty; stamps = map.empty; number = 0; incarnation = incarnation })
stamped_at_first incarnation = record {
  entries = empty_is;
  stamps = λ k. subst (IsStampAt [] map.empty k) (sym (map.get-empty key_cmp k)) (map.get-empty key_cmp k);
  number = refl;
}

-- ---- what merges made is one

same_stamps : (ms : List Merge) (e : Entries) (k : Key) (a b : Option ℕ) → IsStampAt ms e k a → IsStampAt ms e k b → a ≡ b
same_stamps ms e k None None x y = refl
same_stamps ms e k None (Some n) x y = absurd (not_both (map.get e k) x y.0)
same_stamps ms e k (Some n) None x y = absurd (not_both (map.get e k) y x.0)
same_stamps ms e k (Some n) (Some l) x y = ap (λ (n : ℕ). Some n) (one_stamp ms k n l x.1 y.1)

pub one_stamped : (ms : List Merge) (s t : StampedState) → IsStamped ms s → IsStamped ms t → s.incarnation ≡ t.incarnation → s ≡ t
one_stamped ms s t is it same =
    let entries : s.entries ≡ t.entries = is.entries ∙ sym it.entries in
    let stamps : s.stamps ≡ t.stamps = map.same_map key_cmp_total key_cmp_exact s.stamps t.stamps (λ k.
    same_stamps ms s.entries k (map.get s.stamps k) (map.get t.stamps k) (is.stamps k)
    (subst (λ (e : Entries). IsStampAt ms e k (map.get t.stamps k)) (sym entries) (it.stamps k))) in
    let number : s.number ≡ t.number = is.number ∙ sym it.number in
    λ i. record { entries = entries i; stamps = stamps i; number = number i; incarnation = same i }

-- ---- the entries above a number

pub get-entries_above : (s : StampedState) (n : ℕ) (k : Key) → map.get (entries_above s n) k ≡ cond (is_above n (map.get s.stamps k)) (map.get s.entries k) None
get-entries_above s n k = map.get-retain_keys s.entries (λ k. is_above n (map.get s.stamps k)) k (λ x tied. ap (λ (k : Key). is_above n (map.get s.stamps k)) (sym (key_cmp_exact k x tied)))

-- above zero stand all
pub all_above_zero : (ms : List Merge) (s : StampedState) → IsStamped ms s → entries_above s 0 ≡ s.entries
all_above_zero ms s is = map.same_map key_cmp_total key_cmp_exact (entries_above s 0) s.entries (λ k. get-entries_above s 0 k ∙ at k (map.get s.stamps k) (is.stamps k))
  where
    at : (k : Key) (stamp : Option ℕ) → IsStampAt ms s.entries k stamp → cond (is_above 0 stamp) (map.get s.entries k) None ≡ map.get s.entries k
    at k None none = sym none
    at k (Some n) there =
        let some : IsSome (map.get (state_after ms) k) = subst (λ (e : Entries). IsSome (map.get e k)) is.entries there.0 in
        ap (λ b. cond b (map.get s.entries k) None) (lt-ltb 0 n (stamp_above_zero ms k n some there.1))

-- what has at least the first n merges gains from the entries above n just what it gains from all
pub above_suffices : (ms : List Merge) (s : StampedState) (n : ℕ) (x : Entries) → IsStamped ms s → AtMost (state_after (take n ms)) x → join x (entries_above s n) ≡ join x (state_after ms)
above_suffices ms s n x is below = map.same_map key_cmp_total key_cmp_exact (join x (entries_above s n)) (join x (state_after ms)) (λ k.
    get-join x (entries_above s n) k
    ∙ (ap (join_values join_kept (map.get x k)) (get-entries_above s n k)
    ∙ (at k (map.get s.stamps k) (is.stamps k)
    ∙ (ap (λ (e : Entries). join_values join_kept (map.get x k) (map.get e k)) is.entries ∙ sym (get-join x (state_after ms) k)))))
  where
    nothing_new : (k : Key) → join_values join_kept (map.get x k) (map.get (state_after (take n ms)) k) ≡ map.get x k
    nothing_new k = (values_semilattice entry_semilattice).comm (map.get x k) (map.get (state_after (take n ms)) k) ∙ at_key (state_after (take n ms)) x k below

    old : (k : Key) (stamp : ℕ) → IsStamp ms k stamp → stamp ≤ n → join_values join_kept (map.get x k) None ≡ join_values join_kept (map.get x k) (map.get s.entries k)
    old k stamp is_stamp le =
        joined_with_none join_kept (map.get x k)
        ∙ (sym (nothing_new k) ∙ ap (join_values join_kept (map.get x k)) (same_from ms k stamp n is_stamp le ∙ ap (λ (e : Entries). map.get e k) (sym is.entries)))

    at : (k : Key) (stamp : Option ℕ) → IsStampAt ms s.entries k stamp
        → join_values join_kept (map.get x k) (cond (is_above n stamp) (map.get s.entries k) None) ≡ join_values join_kept (map.get x k) (map.get s.entries k)
    at k None gone = ap (join_values join_kept (map.get x k)) (sym gone)
    at k (Some stamp) there =
        elim (nat_lt n stamp) as (λ b. nat_lt n stamp ≡ b → join_values join_kept (map.get x k) (cond b (map.get s.entries k) None) ≡ join_values join_kept (map.get x k) (map.get s.entries k)) [
          | true ↦ λ _. refl
          | false ↦ λ fails. old k stamp there.1 (ltb-false n stamp fails)
        ] refl

-- ---- the entries above a number, as a list

-- are those of the state that pass, in order
pub entries_filtered : (s : StampedState) (n : ℕ) → map.entries (entries_above s n) ≡ filter (above s n) (map.entries s.entries)
entries_filtered s n =
    same_entries key_cmp key_cmp_total key_cmp_exact (map.entries (entries_above s n)) (where_key key_cmp passes (map.entries s.entries))
    (map.entries_sorted (entries_above s n)) (is_sorted-where_key key_cmp passes (map.entries s.entries) (map.entries_sorted s.entries)) (λ q.
    sym (map.get-entries (entries_above s n) q)
    ∙ (map.get-retain_keys s.entries passes q (alike q)
    ∙ (ap (λ (o : Option Kept). cond (passes q) o None) (map.get-entries s.entries q)
    ∙ sym (find-where_key key_cmp passes q (alike q) (map.entries s.entries)))))
  where
    passes : Key → Bool
    passes k = is_above n (map.get s.stamps k)

    alike : (q x : Key) → key_cmp q x ≡ Equal → passes x ≡ passes q
    alike q x tied = ap passes (sym (key_cmp_exact q x tied))
