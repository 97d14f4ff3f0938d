-- What a set of harvests shows, memento by memento, and what it is at most.
use Rattle.std.proofs.Common.{◌≡◌, ℕ, ◌≤◌, Bool, true, false, cond, eqb, ◌&&◌, ◌||◌, max, map, List, [], ◌∷◌}
use Rattle.std.proofs.Common.{Option, Some, None, IfSome, refl, sym, ap, subst, ◌∙◌, arith}
use Rattle.std.specs.Prelude.{◌↔◌, IsTrue}
use Rattle.std.proofs.Common.{inl, inr}
use Rattle.std.specs.Cmp.Lexicographic.{nat_list_cmp_total}
use Rattle.std.specs.List.{list_any, filter, All, Contains, AllByRecursion}
use Rattle.std.specs.Option.{MatchOption}
use Rattle.std.specs.Ordering.{eq_by_cmp, is_eq}
use Rattle.std.specs.Cmp.{Equal-is, tied_itself, both_ways, nat_cmp_total}
use Rattle.std.specs.FinMap as fmap
use Rattle.memento_sets.specs.Sets as set
use Rattle.memento_sets.proofs.Sets as sets
use Rattle.std.proofs.lemmas.Bool.{true≢false, and_parts, and_from, or_left, or_right, or_cases, cases_lt, eqb-true, eq-eqb, leb-true, le-leb}
use Rattle.std.proofs.lemmas.List.Folds.{Any-from_list_any, list_any-from_Any}
use Rattle.std.proofs.lemmas.List.Elements.{All-from_recursion, recursion_from_All, All-weaker, All-contains, All-contains_itself}
use Rattle.memento_time.specs.Mementos.{text_cmp, memento_cmp}
use Rattle.memento_time.specs.declared.mementos.Memento.{Memento}
use Rattle.memento_sets.specs.Maps.{join_values}
use Rattle.memento_sets.specs.MementoSets.{Mementos}
use Rattle.memento_sets.proofs.UnitedLemmas.{or_false}
use Rattle.harvest_lattice.specs.Lattice.{Key, key_cmp, Kept, Entries, whole, held, not_before}
use Rattle.harvest_lattice.specs.Lattice.{KeptAtMost, AtMost, join}
use Rattle.harvest_lattice.specs.Knowledge.{Harvested, key_of, has_key, latest, is_current, union_all, held_by}
use Rattle.harvest_lattice.specs.Knowledge.{entry_of, lat, mementos_of, shown, shown_of}
use Rattle.harvest_lattice.specs.Knowledge.{IsShown}
use Rattle.harvest_lattice.proofs.Entries.{both_held, same_mementos, contains-union}
use Rattle.harvest_lattice.proofs.EntryOrder.{at_most_refl}
use Rattle.harvest_lattice.proofs.Entries.{held_of}
use Rattle.harvest_lattice.proofs.EntryOrder.{key_cmp_total}
use Rattle.harvest_lattice.proofs.EntryOrder.{key_cmp_exact, join_semilattice, at_most_left, at_most_right}
use Rattle.harvest_lattice.proofs.EntryOrder.{at_most_least, at_most_trans, at_most_antisymm}
use Rattle.harvest_lattice.proofs.Knowledge.{held-entry_of, get-lat, get-lat_nil, lat-cons, same_key, key_itself, found_passes, passing_found}

-- ---- what is shown

pub contains-union_all : {X : Type 0} (f : X → Mementos) (p : X → Bool) (xs : List X) (m : Memento)
    → set.contains (union_all (map f (filter p xs))) m ≡ list_any (λ x. p x && set.contains (f x) m) xs
contains-union_all f p [] m = sets.contains-empty memento_cmp m
contains-union_all f p (x ∷ xs) m =
    let rest = contains-union_all f p xs m in
    elim (p x) as (λ b. set.contains (union_all (map f (cond b (x ∷ filter p xs) (filter p xs)))) m
    ≡ ((b && set.contains (f x) m) || list_any (λ x. p x && set.contains (f x) m) xs)) [
      | true ↦ contains-union (f x) (union_all (map f (filter p xs))) m ∙ ap (λ t. set.contains (f x) m || t) rest
      | false ↦ rest
    ]

pub contains-union_map : {X : Type 0} (f : X → Mementos) (xs : List X) (m : Memento)
    → set.contains (union_all (map f xs)) m ≡ list_any (λ x. set.contains (f x) m) xs
contains-union_map f [] m = sets.contains-empty memento_cmp m
contains-union_map f (x ∷ xs) m = contains-union (f x) (union_all (map f xs)) m ∙ ap (λ t. set.contains (f x) m || t) (contains-union_map f xs m)

-- the memento is there
abbrev pub has_at : Option Mementos → Memento → Bool
has_at None m = false
has_at (Some s) m = set.contains s m

-- an entry's mementos are those of its revisions
pub in_entry : (e : Kept) (m : Memento) (r : ℕ) → has_at (held e r) m ≡ true → set.contains (mementos_of e) m ≡ true
in_entry e m r h =
    elim (held e r) as (λ v. held e r ≡ v → has_at v m ≡ true → set.contains (mementos_of e) m ≡ true) [
      | None ↦ λ _ wrong. absurd (true≢false (sym wrong))
      | Some s ↦ λ is has.
          contains-union_map (λ p. p.1) (fmap.entries e.revisions) m
          ∙ found_passes nat_cmp_total fmap.nat_cmp-IsAntisymmetric (λ p. set.contains p.1 m) r s
          (fmap.entries e.revisions) (sym (fmap.get-entries e.revisions r) ∙ is) has
    ] refl h

pub out_entry : (e : Kept) (m : Memento) → set.contains (mementos_of e) m ≡ true → (r : ℕ) × (has_at (held e r) m ≡ true)
out_entry e m h =
    let w = passing_found nat_cmp_total fmap.nat_cmp-IsAntisymmetric (λ p. set.contains p.1 m)
    (fmap.entries e.revisions) (fmap.entries_sorted e.revisions)
    (sym (contains-union_map (λ p. p.1) (fmap.entries e.revisions) m) ∙ h) in
    (w.0.0, ap (λ v. has_at v m) (fmap.get-entries e.revisions w.0.0 ∙ w.1) ∙ w.2)

has-both : (b : Bool) (s : Mementos) (v : Option Mementos) (m : Memento) → has_at (both_held (cond b (Some s) None) v) m
    ≡ ((b && set.contains s m) || has_at v m)
has-both true s None m = sym (or_false (set.contains s m))
has-both true s (Some t) m = contains-union s t m
has-both false s v m = refl

pub has-held_by : (hs : List Harvested) (k : Key) (r : ℕ) (m : Memento) → has_at (held_by hs k r) m
    ≡ list_any (λ h. (has_key k h && eqb h.revision r) && set.contains h.mementos m) hs
has-held_by [] k r m = refl
has-held_by (h ∷ hs) k r m =
    has-both (has_key k h && eqb h.revision r) h.mementos (held_by hs k r) m
    ∙ ap (λ t. ((has_key k h && eqb h.revision r) && set.contains h.mementos m) || t) (has-held_by hs k r m)

pub contains-shown : (hs : List Harvested) (o : List ℕ) (m : Memento) → set.contains (shown hs o) m
    ≡ list_any (λ h. (eq_by_cmp text_cmp o h.original && is_current hs h) && set.contains h.mementos m) hs
unfolding shown
contains-shown hs o m = contains-union_all (λ h. h.mementos) (λ h. eq_by_cmp text_cmp o h.original && is_current hs h) hs m

pub contains-shown_of : (x : Entries) (o : List ℕ) (m : Memento) → set.contains (shown_of x o) m
    ≡ list_any (λ e. eq_by_cmp text_cmp o e.0.1 && set.contains (mementos_of e.1) m) (fmap.entries x)
unfolding shown_of
contains-shown_of x o m = contains-union_all (λ e. mementos_of e.1) (λ e. eq_by_cmp text_cmp o e.0.1) (fmap.entries x) m

tested : (b : Bool) (v : Option Mementos) (m : Memento) → has_at (cond b v None) m ≡ true → (b ≡ true) × (has_at v m ≡ true)
tested true v m h = (refl, h)
tested false v m h = absurd (true≢false (sym h))

module _ (hs : List Harvested) (o : List ℕ) (m : Memento) where
  abbrev of_harvest : Harvested → Bool
  of_harvest h = (eq_by_cmp text_cmp o h.original && is_current hs h) && set.contains h.mementos m

  abbrev of_entry : Key × Kept → Bool
  of_entry e = eq_by_cmp text_cmp o e.0.1 && set.contains (mementos_of e.1) m

  there : list_any of_harvest hs ≡ true → list_any of_entry (fmap.entries (lat hs)) ≡ true
  there one =
      let w = Any-from_list_any of_harvest hs one in
      let h = w.1 in
      let parts = and_parts (eq_by_cmp text_cmp o h.original && is_current hs h) (set.contains h.mementos m) w.4 in
      let front = and_parts (eq_by_cmp text_cmp o h.original) (is_current hs h) parts.0 in
      let k = key_of h in
      let has : has_at (held_by hs k h.revision) m ≡ true =
      has-held_by hs k h.revision m
      ∙ list_any-from_Any (λ g. (has_key k g && eqb g.revision h.revision) && set.contains g.mementos m) hs
      (w.0, h, w.2, w.3, and_from _ _ (and_from _ _ (key_itself k) (eq-eqb h.revision h.revision refl)) parts.1) in
      let kept : has_at (held_of (entry_of hs k) h.revision) m ≡ true =
      ap (λ v. has_at v m) (held-entry_of hs k h.revision ∙ ap (λ b. cond b (held_by hs k h.revision) None) front.1) ∙ has in
      elim (entry_of hs k) as (λ v. entry_of hs k ≡ v → has_at (held_of v h.revision) m ≡ true → list_any of_entry (fmap.entries (lat hs)) ≡ true) [
        | None ↦ λ _ wrong. absurd (true≢false (sym wrong))
        | Some e ↦ λ is has.
            found_passes key_cmp_total key_cmp_exact of_entry k e (fmap.entries (lat hs)) (sym (fmap.get-entries (lat hs) k) ∙ (get-lat hs k ∙ is))
            (and_from _ _ front.0 (in_entry e m h.revision has))
      ] refl kept

  back : list_any of_entry (fmap.entries (lat hs)) ≡ true → list_any of_harvest hs ≡ true
  back one =
      let w = passing_found key_cmp_total key_cmp_exact of_entry (fmap.entries (lat hs)) (fmap.entries_sorted (lat hs)) one in
      let k = w.0.0 in
      let e = w.0.1 in
      let parts = and_parts (eq_by_cmp text_cmp o k.1) (set.contains (mementos_of e) m) w.2 in
      let is : entry_of hs k ≡ Some e = sym (get-lat hs k) ∙ (fmap.get-entries (lat hs) k ∙ w.1) in
      let r = out_entry e m parts.1 in
      let late = tested (not_before (latest hs k) r.0) (held_by hs k r.0) m
      (ap (λ v. has_at v m) (sym (held-entry_of hs k r.0) ∙ ap (λ v. held_of v r.0) is) ∙ r.1) in
      let g = Any-from_list_any (λ g. (has_key k g && eqb g.revision r.0) && set.contains g.mementos m) hs (sym (has-held_by hs k r.0 m) ∙ late.1) in
      let g_parts = and_parts (has_key k g.1 && eqb g.1.revision r.0) (set.contains g.1.mementos m) g.4 in
      let g_front = and_parts (has_key k g.1) (eqb g.1.revision r.0) g_parts.0 in
      let keys : k ≡ key_of g.1 = same_key k (key_of g.1) g_front.0 in
      let original : eq_by_cmp text_cmp o g.1.original ≡ true = ap (λ (q : Key). eq_by_cmp text_cmp o q.1) (sym keys) ∙ parts.0 in
      let current : is_current hs g.1 ≡ true = (λ i. not_before (latest hs (sym keys i)) (eqb-true g.1.revision r.0 g_front.1 i)) ∙ late.0 in
      list_any-from_Any of_harvest hs (g.0, g.1, g.2, g.3, and_from _ _ (and_from _ _ original current) g_parts.1)

pub shown-lat : (hs : List Harvested) (o : List ℕ) → shown hs o ≡ shown_of (lat hs) o
shown-lat hs o = same_mementos _ _ (λ m. contains-shown hs o m ∙ (both_ways _ _ (there hs o m) (back hs o m) ∙ sym (contains-shown_of (lat hs) o m)))

-- ---- members alone matter

pub at_most_nil : (x : Entries) → AtMost (lat []) x
at_most_nil x k = subst (λ (o : Option Kept). IfSome o (λ a. MatchOption (fmap.get x k) ⊥ (λ b. KeptAtMost a b))) (sym (get-lat_nil k)) tt

pub each_at_most : (hs : List Harvested) (x : Entries) → AtMost (lat hs) x → AllByRecursion (λ h. AtMost (lat (h ∷ [])) x) hs
each_at_most [] x le = tt
each_at_most (h ∷ hs) x le =
    let whole : AtMost (join (lat (h ∷ [])) (lat hs)) x = subst (λ (y : Entries). AtMost y x) (lat-cons h hs) le in
    (at_most_trans _ _ _ (at_most_left (lat (h ∷ [])) (lat hs)) whole, each_at_most hs x (at_most_trans _ _ _ (at_most_right (lat (h ∷ [])) (lat hs)) whole))

pub all_at_most : (hs : List Harvested) (x : Entries) → AllByRecursion (λ h. AtMost (lat (h ∷ [])) x) hs → AtMost (lat hs) x
all_at_most [] x each = at_most_nil x
all_at_most (h ∷ hs) x each = subst (λ (y : Entries). AtMost y x) (sym (lat-cons h hs)) (at_most_least _ _ x each.0 (all_at_most hs x each.1))

pub lat_monotone : (hs gs : List Harvested) → ((h : Harvested) → Contains hs h → Contains gs h) → AtMost (lat hs) (lat gs)
lat_monotone hs gs within =
    let P : Harvested → Type 0 = λ h. AtMost (lat (h ∷ [])) (lat gs) in
    let each : All P gs = All-from_recursion P gs
    (each_at_most gs (lat gs) (at_most_trans _ _ _ (at_most_left (lat gs) (lat gs))
    (subst (λ (y : Entries). AtMost y (lat gs)) (sym (join_semilattice.idem (lat gs))) (at_most_refl (lat gs))))) in
    all_at_most hs (lat gs) (recursion_from_All P hs (All-weaker (Contains hs) P (λ h c. All-contains P gs h each (within h c)) hs (All-contains_itself hs)))

pub lat_same : (hs gs : List Harvested) → ((h : Harvested) → Contains hs h → Contains gs h)
    → ((h : Harvested) → Contains gs h → Contains hs h) → lat hs ≡ lat gs
lat_same hs gs there back = at_most_antisymm _ _ (lat_monotone hs gs there) (lat_monotone gs hs back)

pub shown_same : (hs gs : List Harvested) (o : List ℕ) → ((h : Harvested) → Contains hs h → Contains gs h)
    → ((h : Harvested) → Contains gs h → Contains hs h) → shown hs o ≡ shown gs o
shown_same hs gs o there back = shown-lat hs o ∙ (ap (λ x. shown_of x o) (lat_same hs gs there back) ∙ sym (shown-lat gs o))

-- ---- what `shown` means

from_first : (n r : ℕ) (o : Option ℕ) → n ≤ r → MatchOption (join_values max (Some r) o) ⊥ (λ l. n ≤ l)
from_first n r None le = le
from_first n r (Some s) le = omega arith

from_rest : (n : ℕ) (a o : Option ℕ) → MatchOption o ⊥ (λ l. n ≤ l) → MatchOption (join_values max a o) ⊥ (λ l. n ≤ l)
from_rest n None o h = h
from_rest n (Some r) None h = absurd h
from_rest n (Some r) (Some s) h = omega arith

-- a whole harvest of the key, of this revision
abbrev whole_at : Key → ℕ → Harvested → Bool
whole_at k n h = (has_key k h && h.is_whole) && eqb h.revision n

-- no whole harvest of a key is later than its latest
at_most_latest : (hs : List Harvested) (k : Key) (n : ℕ) → list_any (whole_at k n) hs ≡ true → MatchOption (latest hs k) ⊥ (λ l. n ≤ l)
at_most_latest [] k n one = absurd (true≢false (sym one))
at_most_latest (h ∷ hs) k n one =
    elim (or_cases (whole_at k n h) (list_any (whole_at k n) hs) one) [
      | inl here ↦
          let p : ((has_key k h && h.is_whole) ≡ true) × (eqb h.revision n ≡ true) = and_parts (has_key k h && h.is_whole) (eqb h.revision n) here in
          let le : n ≤ h.revision = omega (arith, eqb-true h.revision n p.1) in
          subst (λ b. MatchOption (join_values max (cond b (Some h.revision) None) (latest hs k)) ⊥ (λ l. n ≤ l))
          (sym p.0) (from_first n h.revision (latest hs k) le)
      | inr rest ↦ from_rest n (cond (has_key k h && h.is_whole) (Some h.revision) None) (latest hs k) (at_most_latest hs k n rest)
    ]

reached_more : (b : Bool) (r : ℕ) (o : Option ℕ) (p : ℕ → Bool) → IfSome o (λ l. p l ≡ true)
    → IfSome (join_values max (cond b (Some r) None) o) (λ l. ((b && eqb r l) || p l) ≡ true)
reached_more false r None p h = tt
reached_more false r (Some s) p h = h
reached_more true r None p h = or_left _ _ (eq-eqb r r refl)
reached_more true r (Some s) p h =
    elim (cases_lt r s) [
      | inl lt ↦ let e : max r s ≡ s = omega arith in subst (λ l. (eqb r l || p l) ≡ true) (sym e) (or_right _ _ h)
      | inr ge ↦ let e : max r s ≡ r = omega arith in subst (λ l. (eqb r l || p l) ≡ true) (sym e) (or_left _ _ (eq-eqb r r refl))
    ]

-- the latest revision is one of a whole harvest
latest_reached : (hs : List Harvested) (k : Key) → IfSome (latest hs k) (λ l. list_any (whole_at k l) hs ≡ true)
latest_reached [] k = tt
latest_reached (h ∷ hs) k = reached_more (has_key k h && h.is_whole) h.revision (latest hs k) (λ l. list_any (whole_at k l) hs) (latest_reached hs k)

same_original : (o p : List ℕ) → eq_by_cmp text_cmp o p ≡ true → p ≡ o
same_original o p t = sym (fmap.slice_cmp-IsAntisymmetric fmap.nat_cmp-IsAntisymmetric o p ((Equal-is (text_cmp o p)).0 t))

pub original_itself : (o : List ℕ) → eq_by_cmp text_cmp o o ≡ true
original_itself o = ap is_eq (tied_itself nat_list_cmp_total o)

pub shown-is : (hs : List Harvested) (o : List ℕ) (m : Memento) → IsTrue (set.contains (shown hs o) m) ↔ IsShown hs o m
shown-is hs o m = (there, back)
  where
    there : set.contains (shown hs o) m ≡ true → IsShown hs o m
    there one =
        let w = Any-from_list_any (λ h. (eq_by_cmp text_cmp o h.original && is_current hs h)
        && set.contains h.mementos m) hs (sym (contains-shown hs o m) ∙ one) in
        let h = w.1 in
        let of_original = eq_by_cmp text_cmp o h.original in
        let parts : ((of_original && is_current hs h) ≡ true) × (set.contains h.mementos m ≡ true) =
        and_parts (of_original && is_current hs h) (set.contains h.mementos m) w.4 in
        let front : (of_original ≡ true) × (is_current hs h ≡ true) = and_parts of_original (is_current hs h) parts.0 in
        record {
          harvest = h;
          is_latest = record {
            taken = (w.0, w.2, w.3);
            latest = λ g c all same.
                let above = at_most_latest hs (key_of h) g.revision
                (list_any-from_Any (whole_at (key_of h) g.revision) hs (
                  c.0,
                  g,
                  c.1,
                  c.2,
                  and_from _ _
                      (and_from _ _ (ap (λ k. eq_by_cmp key_cmp (key_of h) k) same ∙ key_itself (key_of h)) all)
                      (eq-eqb g.revision g.revision refl),
                )) in
                elim (latest hs (key_of h)) as (λ l. MatchOption l ⊥ (λ n. g.revision ≤ n) → not_before l h.revision ≡ true → g.revision ≤ h.revision) [
                  | None ↦ λ wrong _. absurd wrong
                  | Some l ↦ λ le late. let up : l ≤ h.revision = leb-true l h.revision late in omega arith
                ] above front.1;
          };
          original_is = same_original o h.original front.0;
          held = parts.1;
        }

    back : IsShown hs o m → set.contains (shown hs o) m ≡ true
    back s =
        let h = s.harvest in
        let c = s.is_latest.taken in
        let current : is_current hs h ≡ true =
        elim (latest hs (key_of h)) as (λ l. IfSome l (λ n. list_any (whole_at (key_of h) n) hs ≡ true) → not_before l h.revision ≡ true) [
          | None ↦ λ _. refl
          | Some l ↦ λ one.
              let w = Any-from_list_any (whole_at (key_of h) l) hs one in
              let p = and_parts (has_key (key_of h) w.1 && w.1.is_whole) (eqb w.1.revision l) w.4 in
              let q = and_parts (has_key (key_of h) w.1) w.1.is_whole p.0 in
              let le : w.1.revision ≤ h.revision = s.is_latest.latest w.1 (w.0, w.2, w.3) q.1 (sym (same_key (key_of h) (key_of w.1) q.0)) in
              let eq : w.1.revision ≡ l = eqb-true w.1.revision l p.1 in
              le-leb l h.revision (omega arith)
        ] (latest_reached hs (key_of h)) in
        contains-shown hs o m ∙ list_any-from_Any (λ h. (eq_by_cmp text_cmp o h.original && is_current hs h) && set.contains h.mementos m) hs
        (c.0, h, c.1, c.2, and_from _ _ (and_from _ _ (ap (eq_by_cmp text_cmp o) s.original_is ∙ original_itself o) current) s.held)
