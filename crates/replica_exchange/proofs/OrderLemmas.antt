-- Keys in the order of their stamps: rows that are added or dropped, and the entries whose stamps stand behind a start.
use Rattle.std.proofs.Common.{◌≡◌, ℕ, ◌+◌, ◌-◌, ◌<◌, ◌≤◌, Bool, true, false, ◌||◌, cond, List, [], ◌∷◌, ◌++◌, length, map, take, drop, Option, Some, None, refl, sym, ap, subst}
use Rattle.std.proofs.Common.{◌∙◌, append_assoc, inl, inr, ◌⊎◌, eqb-true, eq-eqb, ltb-true, lt-ltb, arith}
use Rattle.std.specs.Prelude.{◌==◌, IfSome, get_or}
use Rattle.std.specs.List.{All, AllWithin, Contains, flat_map}
use Rattle.std.specs.List.Sorted.{IsNonDecreasingBy, IsPermutation}
use Rattle.std.specs.Ordering.{eq_by_cmp, is_eq}
use Rattle.std.specs.Cmp.{tied_itself}
use Rattle.std.specs.FinMap as fmap
use Rattle.std.specs.Prelude.{T}
use Rattle.std.specs.Cmp.Lexicographic.{nat_list_cmp_total}
use Rattle.std.specs.FinMap.Entries.{below_all}
use Rattle.std.specs.BTreeMap as tree
use Rattle.std.specs.BTreeMap.{is_at, IsOrdered}
use Rattle.std.specs.Map.{lookup}
use Rattle.std.proofs.lemmas.Bool.{true≢false}
use Rattle.std.proofs.lemmas.Option.{none-some, same_Some, slice_get-get_or}
use Rattle.std.proofs.lemmas.Map.Entries.{btree_map_get_place}
use Rattle.std.proofs.lemmas.Map.Views.{Contains-from_lookup}
use Rattle.std.proofs.lemmas.List.{append-nil, map-append, take-append-drop, take_at, get_or-drop, get_or-take, get_or-map, map_more, length-map, length-drop, length-take-le}
use Rattle.std.proofs.lemmas.Grind.{flat_map-append}
use Rattle.std.proofs.lemmas.List.Elements.{All-nil, All-cons, All-head, All-tail, All-append, All-push, All-map, All-contains, Contains-append_left}
use Rattle.std.proofs.lemmas.List.Elements.{Contains-append_right, Contains-append_cases}
use Rattle.std.proofs.lemmas.List.Sorted.{IsNonDecreasingBy-push, IsNonDecreasingBy-from_default, IsPermutation-map, All-permutation, Contains-permutation}
use Rattle.harvest_lattice.specs.declared.row.Row.{Row}
use Rattle.harvest_lattice.specs.Lattice.{Key, key_cmp, Kept, Entries}
use Rattle.harvest_lattice.specs.Rows.{row_entry, keys_rise, map_with}
use Rattle.harvest_lattice.proofs.EntryOrder.{key_cmp_total, key_cmp_exact}
use Rattle.harvest_lattice.proofs.Knowledge.{same_key}
use Rattle.memento_time.specs.Mementos.{text_cmp}
use Rattle.memento_time.proofs.ListFacts.{no_element, first_element, later_element, first_or_later}
use Rattle.replica_exchange.specs.declared.order.OrderRow.{OrderRow}
use Rattle.replica_exchange.specs.declared.stamps.ChangedKey.{ChangedKey}
use Rattle.replica_exchange.specs.Stamps.{StampedState, is_above, entries_above}
use Rattle.replica_exchange.specs.StampShelves.{Slots, Shelves, slot, slot_of, stamp_in, key_of, is_among, stamp_after}
use Rattle.replica_exchange.specs.StampOrder.{stamp_and_key, given_at, is_stamp, row_with, AreStanding, IsOrderOf, IsBehind, AreAbove, entry_with, standing_entry}
use Rattle.memento_sets.proofs.Sets.{two_parts}
use Rattle.harvest_lattice.proofs.ShelfLemmas.{same_text, lookup-find}
use Rattle.replica_exchange.proofs.ShelfLemmas.{none_above}
use Rattle.replica_exchange.proofs.StampLemmas.{get-entries_above}

-- ---- what a list contains

flat_step : {X Y : Type 0} (f : X → List Y) (z : X) (zs : List X) (x : X) (y : Y) → Contains (f x) y → (Contains zs x → Contains (flat_map f zs) y) → (z ≡ x) ⊎ Contains zs x
    → Contains (flat_map f (z ∷ zs)) y
flat_step {X} f z zs x y in_it rest (inl same) = Contains-append_left (f z) (flat_map f zs) y (subst (λ (q : X). Contains (f q) y) (sym same) in_it)
flat_step f z zs x y in_it rest (inr c) = Contains-append_right (f z) (flat_map f zs) y (rest c)

flat_contains : {X Y : Type 0} (f : X → List Y) (xs : List X) (x : X) (y : Y) → Contains (f x) y → Contains xs x → Contains (flat_map f xs) y
flat_contains f [] x y in_it c = absurd (no_element x c)
flat_contains f (z ∷ zs) x y in_it c = flat_step f z zs x y in_it (flat_contains f zs x y in_it) (first_or_later z zs x c)

flat_all : {X Y : Type 0} (P : X → Type 0) (Q : Y → Type 0) (f : X → List Y) → ((x : X) → P x → All Q (f x)) → (xs : List X) → All P xs → All Q (flat_map f xs)
flat_all P Q f each [] all = All-nil Q
flat_all P Q f each (x ∷ xs) all = All-append Q (f x) (flat_map f xs) (each x (All-head P x xs all)) (flat_all P Q f each xs (All-tail P x xs all))

-- ---- rows that are added

abbrev stamp_of : ℕ × Key → ℕ
stamp_of row = row.0

-- a changed key has its row
among_given : (keys : List ChangedKey) (number : ℕ) (k : Key) → is_among (map key_of keys) k ≡ true → Contains (map (given_at number) keys) (number, k)
among_given [] number k h = absurd (true≢false (sym h))
among_given (key ∷ keys) number k h =
    let rest = among_given keys number k in
    elim (eq_by_cmp key_cmp k (key_of key)) as (λ b. eq_by_cmp key_cmp k (key_of key) ≡ b → (b || is_among (map key_of keys) k) ≡ true → Contains (map (given_at number) (key ∷ keys)) (number, k)) [
      | true ↦ λ t _. subst (λ (q : Key). Contains (map (given_at number) (key ∷ keys)) (number, q)) (sym (same_key k (key_of key) t))
          (first_element (given_at number key) (map (given_at number) keys))
      | false ↦ λ _ other. later_element (given_at number key) (map (given_at number) keys) (number, k) (rest other)
    ] refl h

rises_more : (keys : List ChangedKey) (number : ℕ) (rows : List (ℕ × Key)) → IsNonDecreasingBy stamp_of rows → All (λ (row : ℕ × Key). row.0 ≤ number) rows
    → IsNonDecreasingBy stamp_of (rows ++ map (given_at number) keys)
rises_more [] number rows up within = subst (IsNonDecreasingBy stamp_of) (sym (append-nil rows)) up
rises_more (key ∷ keys) number rows up within =
    let row : ℕ × Key = given_at number key in
    let pushed : IsNonDecreasingBy stamp_of (rows ++ row ∷ []) = IsNonDecreasingBy-push stamp_of rows row up (λ d some. within (length rows - 1) d (omega (arith, some))) in
    let more : All (λ (row : ℕ × Key). row.0 ≤ number) (rows ++ row ∷ []) = All-push (λ (row : ℕ × Key). row.0 ≤ number) rows row within (omega arith) in
    subst (IsNonDecreasingBy stamp_of) (append_assoc rows (row ∷ []) (map (given_at number) keys)) (rises_more keys number (rows ++ row ∷ []) pushed more)

-- the order once a merge has stamped its keys
pub order_after : (old made new : Shelves) (rows : List (ℕ × Key)) (keys : List ChangedKey) (was number : ℕ) → number ≡ was + 1 → IsOrderOf old rows was
    → ((k : Key) → stamp_in (slot made k) ≡ stamp_in (slot old k))
    → ((k : Key) → stamp_in (slot new k) ≡ stamp_after (map key_of keys) number k (stamp_in (slot made k))) → IsOrderOf new (rows ++ map (given_at number) keys) number
order_after old made new rows keys was number next is same stamped = record {
  listed = λ k stamp there. at k stamp (is_among (map key_of keys) k) refl (sym (stamped k ∙ ap (stamp_after (map key_of keys) number k) (same k)) ∙ there);
  rises = rises_more keys number rows is.rises below;
  within = All-append (λ (row : ℕ × Key). row.0 ≤ number) rows (map (given_at number) keys) below (All-map (λ (row : ℕ × Key). row.0 ≤ number) (given_at number) keys (λ k d lt. omega arith));
}
  where
    below : All (λ (row : ℕ × Key). row.0 ≤ number) rows
    below k d lt = let le = is.within k d lt in omega (arith, le, next)

    at : (k : Key) (stamp : ℕ) (b : Bool) → is_among (map key_of keys) k ≡ b → cond b (Some number) (stamp_in (slot old k)) ≡ Some stamp → Contains (rows ++ map (given_at number) keys) (stamp, k)
    at k stamp true among there =
        subst (λ (n : ℕ). Contains (rows ++ map (given_at number) keys) (n, k)) (same_Some number stamp there)
        (Contains-append_right rows (map (given_at number) keys) (number, k) (among_given keys number k among))
    at k stamp false among there = Contains-append_left rows (map (given_at number) keys) (stamp, k) (is.listed k stamp there)

-- slots that hold the same have the same order
pub order_same : (old new : Shelves) (rows : List (ℕ × Key)) (number : ℕ) → ((k : Key) → stamp_in (slot new k) ≡ stamp_in (slot old k)) → IsOrderOf old rows number → IsOrderOf new rows number
order_same old new rows number same is = record {
  listed = λ k stamp there. is.listed k stamp (sym (same k) ∙ there);
  rises = is.rises;
  within = is.within;
}

-- the order of no slots
pub order_of_none : (shelves : Shelves) (rows : List (ℕ × Key)) → shelves.entries ≡ [] → rows ≡ [] → IsOrderOf shelves rows 0
order_of_none shelves rows empty none = record {
  listed = λ k stamp there. absurd (none-some stamp (sym (ap (λ (es : List (List ℕ × Slots)). stamp_in (slot_of (lookup (is_at (text_cmp k.0)) es) k.1)) empty) ∙ there));
  rises = subst (IsNonDecreasingBy stamp_of) (sym none) (λ i j d le lt. absurd (omega (arith, lt)));
  within = subst (All (λ (row : ℕ × Key). row.0 ≤ 0)) (sym none) (All-nil (λ (row : ℕ × Key). row.0 ≤ 0));
}

-- ---- rows that are made anew

-- the rows of an archive's slots
abbrev pub shelf_order : List ℕ × Slots → List (ℕ × Key)
shelf_order shelf = flat_map (λ (e : List ℕ × Option ℕ). row_with (shelf.0, e.0) e.1) (fmap.entries shelf.1)

-- each slot in order is found at its original
find_each : (es : List (List ℕ × Option ℕ)) → T (fmap.is_sorted text_cmp es) → All (λ (e : List ℕ × Option ℕ). fmap.find text_cmp e.0 es ≡ Some e.1) es
find_each [] h = All-nil (λ (e : List ℕ × Option ℕ). fmap.find text_cmp e.0 [] ≡ Some e.1)
find_each (e ∷ es) h =
    let p = two_parts (below_all text_cmp e.0 es) (fmap.is_sorted text_cmp es) h in
    let rest = find_each es p.1 in
    All-cons (λ (f : List ℕ × Option ℕ). fmap.find text_cmp f.0 (e ∷ es) ≡ Some f.1) e es (ap (λ r. cond (is_eq r) (Some e.1) (fmap.find text_cmp e.0 es)) (tied_itself nat_list_cmp_total e.0))
    (λ i d lt. later (get_or es i d) p.0 (rest i d lt))
  where
    later : (f : List ℕ × Option ℕ) → T (below_all text_cmp e.0 es) → fmap.find text_cmp f.0 es ≡ Some f.1 → fmap.find text_cmp f.0 (e ∷ es) ≡ Some f.1
    later f below found =
        elim (eq_by_cmp text_cmp f.0 e.0) as (λ b. eq_by_cmp text_cmp f.0 e.0 ≡ b → cond b (Some e.1) (fmap.find text_cmp f.0 es) ≡ Some f.1) [
          | true ↦ λ t. absurd (none-some f.1 (sym (none_above f.0 es (subst (λ (q : List ℕ). T (below_all text_cmp q es)) (sym (same_text f.0 e.0 t)) below)) ∙ found))
          | false ↦ λ _. found
        ] refl

module _ (shelves : Shelves) (ordered : IsOrdered text_cmp shelves) where
  abbrev Stands : ℕ × Key → Type 0
  Stands row = stamp_in (slot shelves row.1) ≡ Some row.0

  slot_stands : (archive original : List ℕ) (v : Option ℕ) → slot shelves (archive, original) ≡ Some v → All Stands (row_with (archive, original) v)
  slot_stands archive original None there = All-nil Stands
  slot_stands archive original (Some stamp) there = All-cons Stands (stamp, (archive, original)) [] (ap stamp_in there) (All-nil Stands)

  shelf_stands : (s : List ℕ × Slots) → tree.get text_cmp shelves s.0 ≡ Some s.1 → All Stands (shelf_order s)
  shelf_stands s there =
      flat_all (λ (e : List ℕ × Option ℕ). fmap.find text_cmp e.0 (fmap.entries s.1) ≡ Some e.1) Stands (λ (e : List ℕ × Option ℕ). row_with (s.0, e.0) e.1)
      (λ e found. slot_stands s.0 e.0 e.1 (ap (λ (o : Option Slots). slot_of o e.0) there ∙ (fmap.get-entries s.1 e.0 ∙ found)))
      (fmap.entries s.1) (find_each (fmap.entries s.1) (fmap.entries_sorted s.1))

  on_shelf : (archive original : List ℕ) (slots : Slots) (stamp : ℕ) (o : Option (Option ℕ)) → fmap.get slots original ≡ o → stamp_in o ≡ Some stamp
      → Contains (shelf_order (archive, slots)) (stamp, (archive, original))
  on_shelf archive original slots stamp None there none = absurd (none-some stamp none)
  on_shelf archive original slots stamp (Some v) there has =
      let found : lookup (is_at (text_cmp original)) (fmap.entries slots) ≡ Some (Some stamp) = lookup-find text_cmp original (fmap.entries slots)
      ∙ (sym (fmap.get-entries slots original) ∙ (there ∙ ap (λ (v : Option ℕ). Some v) has)) in
      flat_contains (λ (e : List ℕ × Option ℕ). row_with (archive, e.0) e.1) (fmap.entries slots) (original, Some stamp) (stamp, (archive, original)) (first_element (stamp, (archive, original)) [])
      (Contains-from_lookup same_text original (Some stamp) (fmap.entries slots) found)

  in_order : (archive original : List ℕ) (stamp : ℕ) (o : Option Slots) → tree.get text_cmp shelves archive ≡ o → stamp_in (slot_of o original) ≡ Some stamp
      → Contains (flat_map shelf_order shelves.entries) (stamp, (archive, original))
  in_order archive original stamp None there none = absurd (none-some stamp none)
  in_order archive original stamp (Some slots) there has =
      flat_contains shelf_order shelves.entries (archive, slots) (stamp, (archive, original)) (on_shelf archive original slots stamp (fmap.get slots original) refl has)
      (Contains-from_lookup same_text archive slots shelves.entries there)

  -- the rows of all slots are just those that stand
  all_standing : AreStanding shelves (flat_map shelf_order shelves.entries)
  all_standing = record {
    listed = λ k stamp there. in_order k.0 k.1 stamp (tree.get text_cmp shelves k.0) refl there;
    stand = flat_all (λ (s : List ℕ × Slots). tree.get text_cmp shelves s.0 ≡ Some s.1) Stands shelf_order shelf_stands shelves.entries
        (λ i d lt. btree_map_get_place nat_list_cmp_total shelves i (get_or shelves.entries i d).0 (get_or shelves.entries i d).1 ordered (slice_get-get_or shelves.entries i d lt));
  }

  -- also once they are sorted
  pub sorted_standing : (rows sorted : List OrderRow) → map stamp_and_key rows ≡ flat_map shelf_order shelves.entries → IsPermutation rows sorted → AreStanding shelves (map stamp_and_key sorted)
  sorted_standing rows sorted same moved =
      let moved_rows = IsPermutation-map stamp_and_key rows sorted moved in
      let is : AreStanding shelves (map stamp_and_key rows) = subst (AreStanding shelves) (sym same) all_standing in
      record {
        listed = λ k stamp there. Contains-permutation (map stamp_and_key rows) (map stamp_and_key sorted) (stamp, k) moved_rows (is.listed k stamp there);
        stand = All-permutation Stands (map stamp_and_key rows) (map stamp_and_key sorted) moved_rows is.stand;
      }

-- one archive more is listed
pub one_shelf_more : (was now : List (ℕ × Key)) (walked more : List (List ℕ × Slots)) (name archive : List ℕ) (slots : Slots) → was ≡ flat_map shelf_order walked
    → now ≡ was ++ shelf_order (name, slots) → name ≡ archive → more ≡ walked ++ (archive, slots) ∷ [] → now ≡ flat_map shelf_order more
one_shelf_more was now walked more name archive slots listed is_now same is_more =
    let joined : flat_map shelf_order (walked ++ (archive, slots) ∷ []) ≡ flat_map shelf_order walked ++ shelf_order (archive, slots) = flat_map-append shelf_order walked ((archive, slots) ∷ [])
    ∙ ap (λ (l : List (ℕ × Key)). flat_map shelf_order walked ++ l) (append-nil (shelf_order (archive, slots))) in
    is_now ∙ ((λ i. listed i ++ shelf_order (same i, slots)) ∙ (sym joined ∙ ap (flat_map shelf_order) (sym is_more)))

rises_given : (rows : List OrderRow) → IsNonDecreasingBy (λ (row : OrderRow). row.stamp) rows → IsNonDecreasingBy stamp_of (map stamp_and_key rows)
rises_given [] up = λ i j d le lt. absurd (omega (arith, lt))
rises_given (row ∷ rows) up =
    IsNonDecreasingBy-from_default stamp_of (map stamp_and_key (row ∷ rows)) (stamp_and_key row)
    (λ i j le lt.
    let less : j < length (row ∷ rows) = (let same = length-map (row ∷ rows) stamp_and_key in omega (arith, same, lt)) in
    let order = up i j row le less in
    let low : stamp_of (get_or (map stamp_and_key (row ∷ rows)) i (stamp_and_key row)) ≡ (get_or (row ∷ rows) i row).stamp
    = ap stamp_of (get_or-map stamp_and_key (row ∷ rows) i row (stamp_and_key row) (omega (arith, le, less))) in
    let high : stamp_of (get_or (map stamp_and_key (row ∷ rows)) j (stamp_and_key row)) ≡ (get_or (row ∷ rows) j row).stamp
    = ap stamp_of (get_or-map stamp_and_key (row ∷ rows) j row (stamp_and_key row) less) in
    omega (arith, order, low, high))

-- the order of rows that were made anew
pub order_anew : (shelves : Shelves) (rows : List (ℕ × Key)) (anew : List OrderRow) (number : ℕ) → AreStanding shelves (map stamp_and_key anew)
    → IsNonDecreasingBy (λ (row : OrderRow). row.stamp) anew → IsOrderOf shelves rows number → IsOrderOf shelves (map stamp_and_key anew) number
order_anew shelves rows anew number are up is = record {
  listed = are.listed;
  rises = rises_given anew up;
  within = λ i d lt.
      let row : ℕ × Key = get_or (map stamp_and_key anew) i d in
      All-contains (λ (row : ℕ × Key). row.0 ≤ number) rows row is.within (is.listed row.1 row.0 (are.stand i d lt));
}

-- as many as there were, of a list that was only added to
pub front_of : {X : Type 0} (old next now : List X) (more : List X) → next ≡ old ++ more → now ≡ next → take (length old) now ≡ old
front_of {X} old next now more added same = ap (λ (l : List X). take (length old) l) (same ∙ added) ∙ take_at old more (length old) refl

-- ---- rows behind a start

pub rises_by_row : (rows : List OrderRow) → IsNonDecreasingBy stamp_of (map stamp_and_key rows) → IsNonDecreasingBy (λ (row : OrderRow). row.stamp) rows
rises_by_row rows up i j d le lt =
    let less : j < length (map stamp_and_key rows) = (let same = length-map rows stamp_and_key in omega (arith, same, lt)) in
    let order = up i j (stamp_and_key d) le less in
    let low : stamp_of (get_or (map stamp_and_key rows) i (stamp_and_key d)) ≡ (get_or rows i d).stamp = ap stamp_of (get_or-map stamp_and_key rows i d (stamp_and_key d) (omega (arith, le, lt))) in
    let high : stamp_of (get_or (map stamp_and_key rows) j (stamp_and_key d)) ≡ (get_or rows j d).stamp = ap stamp_of (get_or-map stamp_and_key rows j d (stamp_and_key d) lt) in
    omega (arith, order, low, high)

high : (rows : List OrderRow) (from start : ℕ) → AllWithin (λ (row : OrderRow). start < row.stamp) rows from (length rows) → All (λ (row : ℕ × Key). start < row.0) (map stamp_and_key (drop from rows))
high rows from start after =
    All-map (λ (row : ℕ × Key). start < row.0) stamp_and_key (drop from rows)
    (λ k d lt. subst (λ (row : OrderRow). start < row.stamp) (sym (get_or-drop from rows k d)) (after (from + k) d (omega arith) (let left = length-drop from rows in omega (arith, lt, left))))

low : (rows : List OrderRow) (from start : ℕ) → from ≤ length rows → AllWithin (λ (row : OrderRow). row.stamp ≤ start) rows 0 from
    → All (λ (row : ℕ × Key). row.0 ≤ start) (map stamp_and_key (take from rows))
low rows from start le until =
    All-map (λ (row : ℕ × Key). row.0 ≤ start) stamp_and_key (take from rows)
    (λ k d lt. let less : k < from = (let all = length-take-le from rows le in omega (arith, lt, all)) in subst (λ (row : OrderRow). row.stamp ≤ start)
    (sym (get_or-take from rows k d less)) (until k d (omega arith) less))

-- the rest from the first row on that has a stamp above the start
pub rest_behind : (rows : List OrderRow) (from start : ℕ) → from ≤ length rows → AllWithin (λ (row : OrderRow). row.stamp ≤ start) rows 0 from
    → AllWithin (λ (row : OrderRow). start < row.stamp) rows from (length rows)
    → IsBehind start (map stamp_and_key rows) (map stamp_and_key (drop from rows))
rest_behind rows from start le until after = record {
  above = high rows from start after;
  all = λ row above there.
      split row above
      (Contains-append_cases (map stamp_and_key (take from rows)) (map stamp_and_key (drop from rows)) row (subst (λ (l : List (ℕ × Key)). Contains l row) parts there));
}
  where
    parts : map stamp_and_key rows ≡ map stamp_and_key (take from rows) ++ map stamp_and_key (drop from rows)
    parts = ap (map stamp_and_key) (sym (take-append-drop from rows)) ∙ map-append stamp_and_key (take from rows) (drop from rows)

    split : (row : ℕ × Key) → start < row.0 → Contains (map stamp_and_key (take from rows)) row ⊎ Contains (map stamp_and_key (drop from rows)) row → Contains (map stamp_and_key (drop from rows)) row
    split row above (inl lower) =
        let le_start : row.0 ≤ start =
        All-contains (λ (row : ℕ × Key). row.0 ≤ start) (map stamp_and_key (take from rows)) row (low rows from start le until) lower in
        absurd (omega (arith, above, le_start))
    split row above (inr higher) = higher

-- the same of what a slice is cut from, and of how it is cut
pub rest_of : (start : ℕ) (items rows rest cut : List OrderRow) → rows ≡ items → cut ≡ rest → IsBehind start (map stamp_and_key rows) (map stamp_and_key rest)
    → IsBehind start (map stamp_and_key items) (map stamp_and_key cut)
rest_of start items rows rest cut same is_rest is =
    subst (λ (l : List OrderRow). IsBehind start (map stamp_and_key l) (map stamp_and_key cut)) same
    (subst (λ (l : List OrderRow). IsBehind start (map stamp_and_key rows) (map stamp_and_key l)) (sym is_rest) is)

pub rises_of : (items rows : List OrderRow) → rows ≡ items → IsNonDecreasingBy stamp_of (map stamp_and_key items) → IsNonDecreasingBy (λ (row : OrderRow). row.stamp) rows
rises_of items rows same up = rises_by_row rows (subst (λ (l : List OrderRow). IsNonDecreasingBy stamp_of (map stamp_and_key l)) (sym same) up)

-- one row more is looked at
pub noted_more : (s : StampedState) (rows : List OrderRow) (i : ℕ) (item : OrderRow) (row : ℕ × Key) (was now : List (Key × Kept)) → i < length rows → item ≡ get_or rows i item
    → row ≡ stamp_and_key item → was ≡ flat_map (standing_entry s) (map stamp_and_key (take i rows))
    → now ≡ was ++ standing_entry s row → now ≡ flat_map (standing_entry s) (map stamp_and_key (take (i + 1) rows))
noted_more s rows i item row was now lt at same is_was is_now =
    let f = standing_entry s in
    let taken : List (ℕ × Key) = map stamp_and_key (take i rows) in
    let more : map stamp_and_key (take (i + 1) rows) ≡ taken ++ stamp_and_key item ∷ [] = map_more stamp_and_key rows i item lt ∙ ap (λ (r : OrderRow). taken ++ stamp_and_key r ∷ []) (sym at) in
    let joined : flat_map f (taken ++ stamp_and_key item ∷ []) ≡ flat_map f taken ++ f (stamp_and_key item) = flat_map-append f taken (stamp_and_key item ∷ [])
    ∙ ap (λ (l : List (Key × Kept)). flat_map f taken ++ l) (append-nil (f (stamp_and_key item))) in
    is_now ∙ ((λ i. is_was i ++ f (same i)) ∙ (sym joined ∙ ap (flat_map f) (sym more)))

module _ (s : StampedState) (start : ℕ) where
  abbrev IsRight : Key × Kept → Type 0
  IsRight e = (is_above start (fmap.get s.stamps e.0) ≡ true) × (fmap.get s.entries e.0 ≡ Some e.1)

  -- what stands behind the start is above it
  right_entry : (row : ℕ × Key) → start < row.0 → All IsRight (standing_entry s row)
  right_entry row above = with (fmap.get s.stamps row.1) refl
    where
      entry : (m : ℕ) → fmap.get s.stamps row.1 ≡ Some m → m ≡ row.0 → (o : Option Kept) → fmap.get s.entries row.1 ≡ o → All IsRight (entry_with row.1 o)
      entry m stamp same None there = All-nil IsRight
      entry m stamp same (Some e) there = All-cons IsRight (row.1, e) [] (ap (is_above start) stamp ∙ lt-ltb start m (omega (arith, above, same)), there) (All-nil IsRight)

      tested : (m : ℕ) → fmap.get s.stamps row.1 ≡ Some m → (b : Bool) → (m == row.0) ≡ b → All IsRight (cond b (entry_with row.1 (fmap.get s.entries row.1)) [])
      tested m stamp true same = entry m stamp (eqb-true m row.0 same) (fmap.get s.entries row.1) refl
      tested m stamp false same = All-nil IsRight

      with : (o : Option ℕ) → fmap.get s.stamps row.1 ≡ o → All IsRight (cond (is_stamp row.0 o) (entry_with row.1 (fmap.get s.entries row.1)) [])
      with None stamp = All-nil IsRight
      with (Some m) stamp = tested m stamp (m == row.0) refl

  its_entry : (k : Key) (stamp : ℕ) (e : Kept) → fmap.get s.stamps k ≡ Some stamp → fmap.get s.entries k ≡ Some e → Contains (standing_entry s (stamp, k)) (k, e)
  its_entry k stamp e has there =
      subst (λ (b : Bool). Contains (cond b (entry_with k (fmap.get s.entries k)) []) (k, e)) (sym (ap (is_stamp stamp) has ∙ eq-eqb stamp stamp refl))
      (subst (λ (o : Option Kept). Contains (entry_with k o) (k, e)) (sym there) (first_element (k, e) []))

  -- the entries of the rows behind a start are those above it
  pub above_behind : (shelves : Shelves) (rows behind : List (ℕ × Key)) (number : ℕ) (es : List (Key × Kept)) → ((k : Key) → fmap.get s.stamps k ≡ stamp_in (slot shelves k))
      → IsOrderOf shelves rows number → IsBehind start rows behind
      → es ≡ flat_map (standing_entry s) behind → AreAbove s start es
  above_behind shelves rows behind number es stamps is rest same = subst (AreAbove s start) (sym same) (record {
    only = flat_all (λ (row : ℕ × Key). start < row.0) IsRight (standing_entry s) right_entry behind rest.above;
    all = λ k e above there. found k e (fmap.get s.stamps k) refl above there;
  })
    where
      found : (k : Key) (e : Kept) (o : Option ℕ) → fmap.get s.stamps k ≡ o → is_above start o ≡ true → fmap.get s.entries k ≡ Some e → Contains (flat_map (standing_entry s) behind) (k, e)
      found k e None has above there = absurd (true≢false (sym above))
      found k e (Some stamp) has above there =
          let listed : Contains rows (stamp, k) = is.listed k stamp (sym (stamps k) ∙ has) in
          flat_contains (standing_entry s) behind (stamp, k) (k, e) (its_entry k stamp e has there) (rest.all (stamp, k) (ltb-true start stamp above) listed)

  -- in another order they are the same
  pub above_sorted : (rows sorted : List Row) → IsPermutation rows sorted → AreAbove s start (map row_entry rows) → AreAbove s start (map row_entry sorted)
  above_sorted rows sorted moved is =
      let moved_entries = IsPermutation-map row_entry rows sorted moved in
      record {
        only = All-permutation IsRight (map row_entry rows) (map row_entry sorted) moved_entries is.only;
        all = λ k e above there. Contains-permutation (map row_entry rows) (map row_entry sorted) (k, e) moved_entries (is.all k e above there);
      }

  -- ---- and their map

  find_only : (Q : Key × Kept → Type 0) (es : List (Key × Kept)) (k : Key) (e : Kept) → fmap.find key_cmp k es ≡ Some e → All Q es → Q (k, e)
  find_only Q [] k e found all = absurd (none-some e found)
  find_only Q (x ∷ es) k e found all =
      let rest = find_only Q es k e in
      elim (eq_by_cmp key_cmp k x.0) as (λ b. eq_by_cmp key_cmp k x.0 ≡ b → cond b (Some x.1) (fmap.find key_cmp k es) ≡ Some e → Q (k, e)) [
        | true ↦ λ t h.
            let key : x.0 ≡ k = sym (same_key k x.0 t) in
            let value : x.1 ≡ e = same_Some x.1 e h in
            subst Q (λ i. (key i, value i)) (All-head Q x es all)
        | false ↦ λ t h. rest h (All-tail Q x es all)
      ] refl found

  find_some : (es : List (Key × Kept)) (k : Key) (e : Kept) → Contains es (k, e) → fmap.find key_cmp k es ≡ None → ⊥
  find_some [] k e c none = no_element (k, e) c
  find_some (x ∷ es) k e c none =
      let rest = find_some es k e in
      elim (eq_by_cmp key_cmp k x.0) as (λ b. eq_by_cmp key_cmp k x.0 ≡ b → cond b (Some x.1) (fmap.find key_cmp k es) ≡ None → ⊥) [
        | true ↦ λ t h. none-some x.1 (sym h)
        | false ↦ λ t h. split t h rest (first_or_later x es (k, e) c)
      ] refl none
    where
      split : eq_by_cmp key_cmp k x.0 ≡ false → fmap.find key_cmp k es ≡ None → (Contains es (k, e) → fmap.find key_cmp k es ≡ None → ⊥) → (x ≡ (k, e)) ⊎ Contains es (k, e) → ⊥
      split t h rest (inl same) = true≢false (sym (ap is_eq (tied_itself key_cmp_total k)) ∙ (ap (λ (y : Key × Kept). eq_by_cmp key_cmp k y.0) (sym same) ∙ t))
      split t h rest (inr c) = rest c h

  map_above : (es : List (Key × Kept)) → AreAbove s start es → fmap.from_entries es ≡ entries_above s start
  map_above es is =
      fmap.same_map key_cmp_total key_cmp_exact (fmap.from_entries es) (entries_above s start)
      (λ k. fmap.get-from_entries key_cmp_total es k ∙ (at k (fmap.find key_cmp k es) refl ∙ sym (get-entries_above s start k)))
    where
      none : (k : Key) → fmap.find key_cmp k es ≡ None → (b : Bool) → is_above start (fmap.get s.stamps k) ≡ b → (o : Option Kept) → fmap.get s.entries k ≡ o → None ≡ cond b o None
      none k found false above o there = refl
      none k found true above None there = refl
      none k found true above (Some e) there = absurd (find_some es k e (is.all k e above there) found)

      at : (k : Key) (o : Option Kept) → fmap.find key_cmp k es ≡ o → o ≡ cond (is_above start (fmap.get s.stamps k)) (fmap.get s.entries k) None
      at k (Some e) found = let its = find_only IsRight es k e found is.only in sym (ap (λ b. cond b (fmap.get s.entries k) None) its.0 ∙ its.1)
      at k None found = none k found (is_above start (fmap.get s.stamps k)) refl (fmap.get s.entries k) refl

  -- rows that stand in order are those entries
  pub state_above : (es : List (Key × Kept)) (found : Option Entries) → found ≡ map_with es → AreAbove s start es → IfSome found (λ (state : Entries). state ≡ entries_above s start)
  state_above es found made is =
      subst (λ (o : Option Entries). IfSome o (λ (state : Entries). state ≡ entries_above s start)) (sym made)
      (elim (keys_rise es) as (λ b. IfSome (cond b (Some (fmap.from_entries es)) None) (λ (state : Entries). state ≡ entries_above s start)) [ true ↦ map_above es is | false ↦ tt ])

-- where a key lacks the stamp, or an entry, nothing is added
pub nothing_added : (s : StampedState) (row : ℕ × Key) (es : List (Key × Kept)) → standing_entry s row ≡ [] → es ≡ es ++ standing_entry s row
nothing_added s row es none = sym (ap (λ (l : List (Key × Kept)). es ++ l) none ∙ append-nil es)

pub other_stamp : (s : StampedState) (row : ℕ × Key) → is_stamp row.0 (fmap.get s.stamps row.1) ≡ false → standing_entry s row ≡ []
other_stamp s row other = ap (λ b. cond b (entry_with row.1 (fmap.get s.entries row.1)) []) other

pub no_entry : (s : StampedState) (row : ℕ × Key) → is_stamp row.0 (fmap.get s.stamps row.1) ≡ true → fmap.get s.entries row.1 ≡ None → standing_entry s row ≡ []
no_entry s row same none = (λ i. cond (same i) (entry_with row.1 (none i)) [])

pub its_standing : (s : StampedState) (row : ℕ × Key) (e : Kept) → is_stamp row.0 (fmap.get s.stamps row.1) ≡ true → fmap.get s.entries row.1 ≡ Some e → standing_entry s row ≡ (row.1, e) ∷ []
its_standing s row e same there = (λ i. cond (same i) (entry_with row.1 (there i)) [])

pub entry_added : (s : StampedState) (row : ℕ × Key) (e : Kept) (entry : Key × Kept) (es now : List (Key × Kept)) → is_stamp row.0 (fmap.get s.stamps row.1) ≡ true
    → fmap.get s.entries row.1 ≡ Some e → now ≡ es ++ entry ∷ [] → entry ≡ (row.1, e) → now ≡ es ++ standing_entry s row
entry_added s row e entry es now same there added is = added ∙ (ap (λ (x : Key × Kept). es ++ x ∷ []) is ∙ ap (λ (l : List (Key × Kept)). es ++ l) (sym (its_standing s row e same there)))

-- one changed key more is listed
pub one_listed : (stamp : ℕ) (first now next : List (ℕ × Key)) (keys : List ChangedKey) (i : ℕ) (key : ChangedKey) → i < length keys → key ≡ get_or keys i key
    → now ≡ first ++ map (given_at stamp) (take i keys) → next ≡ now ++ given_at stamp key ∷ []
    → next ≡ first ++ map (given_at stamp) (take (i + 1) keys)
one_listed stamp first now next keys i key lt at is_now is_next =
    let taken : List (ℕ × Key) = map (given_at stamp) (take i keys) in
    let more : map (given_at stamp) (take (i + 1) keys) ≡ taken ++ given_at stamp key ∷ [] = map_more (given_at stamp) keys i key lt
    ∙ ap (λ (q : ChangedKey). taken ++ given_at stamp q ∷ []) (sym at) in
    is_next ∙ (ap (λ (l : List (ℕ × Key)). l ++ given_at stamp key ∷ []) is_now ∙ (append_assoc first taken (given_at stamp key ∷ []) ∙ ap (λ (l : List (ℕ × Key)). first ++ l) (sym more)))
