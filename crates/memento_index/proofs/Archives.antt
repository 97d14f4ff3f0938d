-- The count of a memento is the number of archives that show it.
use Rattle.std.proofs.Common.{◌≡◌, ℕ, ◌+◌, Bool, true, false, cond, ◌&&◌, ◌||◌, map, length, get_or, List, [], ◌∷◌}
use Rattle.std.proofs.Common.{Option, Some, None, refl, sym, ap, subst, ◌∙◌, arith}
use Rattle.std.specs.Prelude.{T, IsTrue, ◌↔◌}
use Rattle.std.specs.List.{list_any, filter, AllByRecursion, Contains}
use Rattle.std.specs.List.Sorted.{IsStrictlySortedBy}
use Rattle.std.specs.declared.cmp.Ordering.TheVariants.{Less, Equal, Greater}
use Rattle.std.specs.Ordering.{eq_by_cmp, is_lt, ordering_then}
use Rattle.std.specs.Cmp.{tied_itself}
use Rattle.std.specs.Cmp.Lexicographic.{nat_list_cmp_total}
use Rattle.std.specs.FinMap as fmap
use Rattle.std.specs.FinMap.Entries.{below_all}
use Rattle.std.proofs.lemmas.Bool.{true≢false, and_parts, and_from, or_left, or_right}
use Rattle.std.proofs.lemmas.List.{get_or_default}
use Rattle.std.proofs.lemmas.List.Elements.{All-from_recursion, recursion_from_All, All-contains}
use Rattle.std.proofs.lemmas.List.Folds.{Any-from_list_any}
use Rattle.std.proofs.lemmas.Option.{none-some, same_Some, slice_get_read}
use Rattle.memento_time.specs.Mementos.{text_cmp}
use Rattle.memento_time.specs.declared.mementos.Memento.{Memento}
use Rattle.memento_sets.specs.Sets as set
use Rattle.memento_sets.specs.MementoSets.{Mementos}
use Rattle.memento_sets.proofs.Sets.{two_parts, less_from}
use Rattle.harvest_lattice.specs.Lattice.{Key, key_cmp, Kept, Entries, held}
use Rattle.harvest_lattice.specs.Knowledge.{mementos_of, shown_of}
use Rattle.harvest_lattice.proofs.Knowledge.{same_key}
use Rattle.harvest_lattice.proofs.KnowledgeShown.{has_at, in_entry, out_entry, contains-shown_of, original_itself}
use Rattle.harvest_lattice.proofs.ShelfLemmas.{same_text}
use Rattle.harvest_lattice.proofs.Walked.{value_at}
use Rattle.harvest_lattice.proofs.ShownLemmas.{row_shows}
use Rattle.memento_index.specs.Showing.{showing_by, showing, IsShowing, AreShowing}

-- the archives of the entries that do
abbrev archives_in : List (Key × Kept) → List ℕ → Memento → List (List ℕ)
archives_in es o m = map (λ e. e.0.0) (filter (row_shows o m) es)

-- and that of one more, if it does
abbrev archives_if : Bool → Key × Kept → List (Key × Kept) → List ℕ → Memento → List (List ℕ)
archives_if b e es o m = map (λ e. e.0.0) (cond b (e ∷ filter (row_shows o m) es) (filter (row_shows o m) es))

-- ---- how many they are

counted : (es : List (Key × Kept)) (o : List ℕ) (m : Memento) → showing_by (λ e. Some e.1) es o m ≡ length (archives_in es o m)
counted [] o m = refl
counted (e ∷ es) o m = by (eq_by_cmp text_cmp o e.0.1) (set.contains (mementos_of e.1) m) (counted es o m)
  where
    by : (a b : Bool) → showing_by (λ e. Some e.1) es o m ≡ length (archives_in es o m) →
        cond a (cond b 1 0) 0 + showing_by (λ e. Some e.1) es o m ≡ length (archives_if (a && b) e es o m)
    by true true rest = omega (arith, rest)
    by true false rest = omega (arith, rest)
    by false b rest = omega (arith, rest)

-- ---- each stands there once

archive_less : (k q : Key) → key_cmp k q ≡ Less → k.1 ≡ q.1 → text_cmp k.0 q.0 ≡ Less
archive_less k q lt same =
    elim (text_cmp k.0 q.0) as (λ r. ordering_then r (text_cmp k.1 q.1) ≡ Less → r ≡ Less) [
      | Less ↦ λ _. refl
      | Equal ↦ λ tie. sym (ap (text_cmp k.1) (sym same) ∙ tied_itself nat_list_cmp_total k.1) ∙ tie
      | Greater ↦ λ wrong. wrong
    ] lt

all_above : (k : Key) (es : List (Key × Kept)) (o : List ℕ) (m : Memento) → T (below_all key_cmp k es) → k.1 ≡ o
    → AllByRecursion (λ a. text_cmp k.0 a ≡ Less) (archives_in es o m)
all_above k [] o m h of_it = tt
all_above k (e ∷ es) o m h of_it =
    let p = two_parts (is_lt (key_cmp k e.0)) (below_all key_cmp k es) h in
    let rest = all_above k es o m p.1 of_it in
    elim (eq_by_cmp text_cmp o e.0.1) as (λ a. eq_by_cmp text_cmp o e.0.1 ≡ a
    → AllByRecursion (λ a. text_cmp k.0 a ≡ Less) (archives_if (a && set.contains (mementos_of e.1) m) e es o m)) [
      | true ↦ λ t.
          elim (set.contains (mementos_of e.1) m) as (λ b. AllByRecursion (λ a. text_cmp k.0 a ≡ Less) (archives_if b e es o m)) [
            | true ↦ (archive_less k e.0 (less_from (key_cmp k e.0) p.0) (of_it ∙ same_text o e.0.1 t), rest)
            | false ↦ rest
          ]
      | false ↦ λ _. rest
    ] refl

each_once : (es : List (Key × Kept)) (o : List ℕ) (m : Memento) → T (fmap.is_sorted key_cmp es) → IsStrictlySortedBy text_cmp (archives_in es o m)
unfolding IsStrictlySortedBy
each_once [] o m h = tt
each_once (e ∷ es) o m h =
    let p = two_parts (below_all key_cmp e.0 es) (fmap.is_sorted key_cmp es) h in
    let rest = each_once es o m p.1 in
    elim (eq_by_cmp text_cmp o e.0.1) as (λ a. eq_by_cmp text_cmp o e.0.1 ≡ a
    → IsStrictlySortedBy text_cmp (archives_if (a && set.contains (mementos_of e.1) m) e es o m)) [
      | true ↦ λ t.
          elim (set.contains (mementos_of e.1) m) as (λ b. IsStrictlySortedBy text_cmp (archives_if b e es o m)) [
            | true ↦ (all_above e.0 es o m p.0 (sym (same_text o e.0.1 t)), rest)
            | false ↦ rest
          ]
      | false ↦ λ _. rest
    ] refl

-- ---- they are those that show it

there_at : (v : Option Mementos) (m : Memento) → has_at v m ≡ true → (s : Mementos) × (v ≡ Some s) × (set.contains s m ≡ true)
there_at None m h = absurd (true≢false (sym h))
there_at (Some s) m h = (s, refl, h)

one_shows : (x : Entries) (o : List ℕ) (m : Memento) (e : Key × Kept) → fmap.get x e.0 ≡ Some e.1
    → eq_by_cmp text_cmp o e.0.1 ≡ true → set.contains (mementos_of e.1) m ≡ true → IsShowing x o m e.0.0
one_shows x o m e stands t has =
    let at = out_entry e.1 m has in
    let w = there_at (held e.1 at.0) m at.1 in
    record {
      kept = e.1;
      stands = ap (λ p. fmap.get x (e.0.0, p)) (same_text o e.0.1 t) ∙ stands;
      revision = at.0;
      mementos = w.0;
      held_there = w.1;
      has = w.2;
    }

entry_shows : (x : Entries) (o : List ℕ) (m : Memento) (archive : List ℕ) (w : IsShowing x o m archive) → set.contains (mementos_of w.kept) m ≡ true
entry_shows x o m archive w = in_entry w.kept m w.revision (ap (λ v. has_at v m) w.held_there ∙ w.has)

all_stand : (x : Entries) → AllByRecursion (λ e. fmap.get x e.0 ≡ Some e.1) (fmap.entries x)
all_stand x = recursion_from_All (λ e. fmap.get x e.0 ≡ Some e.1) (fmap.entries x) (λ k d lt.
    let es = fmap.entries x in
    value_at x k (get_or es k d) (slice_get_read es (length es) k (get_or es k d) refl lt (get_or_default es k d (get_or es k d) lt)))

all_show : (x : Entries) (es : List (Key × Kept)) (o : List ℕ) (m : Memento)
    → AllByRecursion (λ e. fmap.get x e.0 ≡ Some e.1) es → AllByRecursion (IsShowing x o m) (archives_in es o m)
all_show x [] o m all = tt
all_show x (e ∷ es) o m all =
    let rest = all_show x es o m all.1 in
    elim (eq_by_cmp text_cmp o e.0.1) as (λ a. eq_by_cmp text_cmp o e.0.1 ≡ a
    → AllByRecursion (IsShowing x o m) (archives_if (a && set.contains (mementos_of e.1) m) e es o m)) [
      | true ↦ λ t.
          elim (set.contains (mementos_of e.1) m) as (λ b. set.contains (mementos_of e.1) m ≡ b → AllByRecursion (IsShowing x o m) (archives_if b e es o m)) [
            | true ↦ λ has. (one_shows x o m e all.0 t has, rest)
            | false ↦ λ _. rest
          ] refl
      | false ↦ λ _. rest
    ] refl

-- an entry that is found passes a test with its key
found_passes : (p : Key × Kept → Bool) (k : Key) (v : Kept) (es : List (Key × Kept)) → fmap.find key_cmp k es ≡ Some v → p (k, v) ≡ true → list_any p es ≡ true
found_passes p k v [] found pass = absurd (none-some v found)
found_passes p k v (e ∷ es) found pass =
    elim (eq_by_cmp key_cmp k e.0) as (λ b. eq_by_cmp key_cmp k e.0 ≡ b → cond b (Some e.1) (fmap.find key_cmp k es) ≡ Some v → (p e || list_any p es) ≡ true) [
      | true ↦ λ t is. or_left (p e) (list_any p es) ((λ i. p (sym (same_key k e.0 t) i, same_Some _ _ is i)) ∙ pass)
      | false ↦ λ t is. or_right (p e) (list_any p es) (found_passes p k v es is pass)
    ] refl found

any_archive : (a : List ℕ) (es : List (Key × Kept)) (o : List ℕ) (m : Memento)
    → list_any (λ e. row_shows o m e && eq_by_cmp text_cmp a e.0.0) es ≡ list_any (eq_by_cmp text_cmp a)
    (archives_in es o m)
any_archive a [] o m = refl
any_archive a (e ∷ es) o m =
    let rest = any_archive a es o m in
    elim (row_shows o m e) as (λ b. ((b && eq_by_cmp text_cmp a e.0.0)
    || list_any (λ e. row_shows o m e && eq_by_cmp text_cmp a e.0.0) es) ≡ list_any (eq_by_cmp text_cmp a)
    (archives_if b e es o m)) [
      | true ↦ ap (λ r. eq_by_cmp text_cmp a e.0.0 || r) rest
      | false ↦ rest
    ]

stands_there : (x : Entries) (o : List ℕ) (m : Memento) (archive : List ℕ) → IsShowing x o m archive → Contains (archives_in (fmap.entries x) o m) archive
stands_there x o m archive w =
    let found : fmap.find key_cmp (archive, o) (fmap.entries x) ≡ Some w.kept = sym (fmap.get-entries x (archive, o)) ∙ w.stands in
    let passes = and_from _ _ (and_from _ _ (original_itself o) (entry_shows x o m archive w)) (original_itself archive) in
    let one = found_passes (λ e. row_shows o m e && eq_by_cmp text_cmp archive e.0.0) (archive, o) w.kept (fmap.entries x) found passes in
    let any = Any-from_list_any (eq_by_cmp text_cmp archive) (archives_in (fmap.entries x) o m) (sym (any_archive archive (fmap.entries x) o m) ∙ one) in
    subst (Contains (archives_in (fmap.entries x) o m)) (sym (same_text archive any.1 any.4)) (any.0, any.2, any.3)

pub archives_counted : (x : Entries) (o : List ℕ) (m : Memento) → (archives : List (List ℕ)) × AreShowing x o m archives × (showing x o m ≡ length archives)
archives_counted x o m =
    let es = fmap.entries x in (
      archives_in es o m,
      record {
        once = each_once es o m (fmap.entries_sorted x);
        each = λ archive. (
          λ c. All-contains (IsShowing x o m) (archives_in es o m) archive
              (All-from_recursion (IsShowing x o m) (archives_in es o m) (all_show x es o m (all_stand x))) c,
          stands_there x o m archive,
        );
      },
      counted es o m,
    )

-- ---- a memento is listed where one does

pub listed_where_shown : (x : Entries) (o : List ℕ) (m : Memento) → IsTrue (set.contains (shown_of x o) m) ↔ ((archive : List ℕ) × IsShowing x o m archive)
listed_where_shown x o m = (there, back)
  where
    there : set.contains (shown_of x o) m ≡ true → (archive : List ℕ) × IsShowing x o m archive
    there h =
        let w = Any-from_list_any (row_shows o m) (fmap.entries x) (sym (contains-shown_of x o m) ∙ h) in
        let p = and_parts (eq_by_cmp text_cmp o w.1.0.1) (set.contains (mementos_of w.1.1) m) w.4 in
        let at = value_at x w.0 w.1 (slice_get_read (fmap.entries x) (length (fmap.entries x)) w.0 w.1 refl w.2 (sym w.3)) in
        (w.1.0.0, one_shows x o m w.1 at p.0 p.1)

    back : ((archive : List ℕ) × IsShowing x o m archive) → set.contains (shown_of x o) m ≡ true
    back s =
        let w = s.1 in
        contains-shown_of x o m
        ∙ found_passes (row_shows o m) (s.0, o) w.kept (fmap.entries x) (sym (fmap.get-entries x (s.0, o)) ∙ w.stands)
        (and_from _ _ (original_itself o) (entry_shows x o m s.0 w))
