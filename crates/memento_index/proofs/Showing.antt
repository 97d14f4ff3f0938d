-- How many archives show a memento, before and after entries are joined.
use Rattle.std.proofs.Common.{◌≡◌, ℕ, ◌+◌, ◌<◌, ◌≤◌, Bool, true, false, cond, ◌&&◌, ◌||◌, map, length, List, [], ◌∷◌}
use Rattle.std.proofs.Common.{Option, Some, None, refl, sym, ap, ◌∙◌, arith}
use Rattle.std.specs.Prelude.{T}
use Rattle.std.specs.declared.cmp.Ordering.TheVariants.{Less, Equal, Greater}
use Rattle.std.specs.List.{list_any}
use Rattle.std.specs.Ordering.{eq_by_cmp, is_eq, is_lt}
use Rattle.std.specs.FinMap as fmap
use Rattle.std.specs.FinMap.Entries.{below_all, by_order, put}
use Rattle.std.proofs.lemmas.Bool.{true≢false}
use Rattle.memento_time.specs.Mementos.{text_cmp, memento_cmp}
use Rattle.memento_time.specs.declared.mementos.Memento.{Memento}
use Rattle.memento_sets.specs.Sets as set
use Rattle.memento_sets.specs.MementoSets.{Mementos}
use Rattle.memento_sets.proofs.Sets.{two_parts, both_parts, less_from, contains-empty}
use Rattle.harvest_lattice.specs.Lattice.{Key, key_cmp, Kept, Entries, join}
use Rattle.harvest_lattice.specs.Knowledge.{mementos_of, shown_of}
use Rattle.harvest_lattice.specs.Parts.{kept_in}
use Rattle.harvest_lattice.proofs.EntryOrder.{key_cmp_total, key_cmp_exact}
use Rattle.harvest_lattice.proofs.Knowledge.{below_none}
use Rattle.harvest_lattice.proofs.KnowledgeShown.{contains-shown_of}
use Rattle.harvest_lattice.proofs.Parts.{entries_in}
use Rattle.harvest_lattice.proofs.ShownLemmas.{shown_of_one}
use Rattle.memento_index.proofs.Puts.{put_all, or_else, joined_with, get-put_all, put_joined, joined_sorted}
use Rattle.memento_index.specs.Showing.{shows_one, showing_by, showing, shown_before, shown_after}

-- one where the original is the entry's
abbrev pub of_original : List ℕ → Key → Option Kept → Memento → ℕ
of_original o k kept m = cond (eq_by_cmp text_cmp o k.1) (shows_one kept m) 0

-- ---- one entry put

no_one : (o : List ℕ) (k : Key) (m : Memento) → of_original o k None m ≡ 0
no_one o k m = elim (eq_by_cmp text_cmp o k.1) as (λ b. cond {A = ℕ} b 0 0 ≡ 0) [ true ↦ refl | false ↦ refl ]

-- a key below those in front of the entries isn't among them
below_through : (k a : Key) (es : List (Key × Kept)) → key_cmp k a ≡ Less → T (below_all key_cmp a es) → fmap.find key_cmp k es ≡ None
below_through k a [] lt h = refl
below_through k a (e ∷ es) lt h =
    let p = two_parts (is_lt (key_cmp a e.0)) (below_all key_cmp a es) h in
    ap (λ r. cond (is_eq r) (Some e.1) (fmap.find key_cmp k es)) (key_cmp_total.trans k a e.0 lt (less_from (key_cmp a e.0) p.0)) ∙ below_through k a es lt p.1

put_shows : (k : Key) (v : Kept) (es : List (Key × Kept)) → T (fmap.is_sorted key_cmp es) → (o : List ℕ) (m : Memento)
    → showing_by (λ e. Some e.1) (put key_cmp k v es) o m + of_original o k (fmap.find key_cmp k es) m
    ≡ showing_by (λ e. Some e.1) es o m + of_original o k (Some v) m
put_shows k v [] h o m = let none = no_one o k m in omega arith
put_shows k v (e ∷ es) h o m =
    let p = two_parts (below_all key_cmp e.0 es) (fmap.is_sorted key_cmp es) h in
    let rest = put_shows k v es p.1 o m in
    elim (key_cmp k e.0) as (λ r. key_cmp k e.0 ≡ r
    → showing_by (λ e. Some e.1) (by_order r ((k, v) ∷ e ∷ es) ((e.0, v) ∷ es) (e ∷ put key_cmp k v es)) o
    m + of_original o k (cond (is_eq r) (Some e.1) (fmap.find key_cmp k es)) m ≡ showing_by (λ e. Some e.1)
    (e ∷ es) o m + of_original o k (Some v) m) [
      | Less ↦ λ is.
          let none : of_original o k (fmap.find key_cmp k es) m ≡ 0 = ap (λ f. of_original o k f m) (below_through k e.0 es is p.0) ∙ no_one o k m in
          omega (arith, none)
      | Equal ↦ λ is.
          let same : k ≡ e.0 = key_cmp_exact k e.0 is in
          let was : of_original o k (Some e.1) m ≡ of_original o e.0 (Some e.1) m = ap (λ (q : Key). of_original o q (Some e.1) m) same in
          let now : of_original o k (Some v) m ≡ of_original o e.0 (Some v) m = ap (λ (q : Key). of_original o q (Some v) m) same in
          omega (arith, was, now)
      | Greater ↦ λ is. omega (arith, rest)
    ] refl

insert_shows : (x : Entries) (k : Key) (v : Kept) (o : List ℕ) (m : Memento)
    → showing (fmap.insert x k v) o m + of_original o k (fmap.get x k) m ≡ showing x o m + of_original o k (Some v) m
insert_shows x k v o m =
    let put_is = ap (λ (es : List (Key × Kept)). showing_by (λ e. Some e.1) es o m) (fmap.entries-insert key_cmp_total x k v) in
    let found = ap (λ f. of_original o k f m) (fmap.get-entries x k) in
    let h = put_shows k v (fmap.entries x) (fmap.entries_sorted x) o m in
    omega (arith, put_is, found, h)

-- ---- entries put, one after the other

put_all_shows : (x : Entries) (es : List (Key × Kept)) → T (fmap.is_sorted key_cmp es) → (o : List ℕ) (m : Memento)
    → showing (put_all es x) o m + showing_by (λ e. fmap.get x e.0) es o m ≡ showing x o m + showing_by
    (λ e. Some e.1) es o m
put_all_shows x [] h o m = refl
put_all_shows x (e ∷ es) h o m =
    let p = two_parts (below_all key_cmp e.0 es) (fmap.is_sorted key_cmp es) h in
    let rest = put_all_shows x es p.1 o m in
    let one = insert_shows (put_all es x) e.0 e.1 o m in
    let was : of_original o e.0 (fmap.get (put_all es x) e.0) m ≡ of_original o e.0 (fmap.get x e.0) m =
    ap (λ f. of_original o e.0 f m) (get-put_all es x e.0
    ∙ ap (λ f. or_else f (fmap.get x e.0)) (below_none e.0 es p.0)) in
    omega (arith, rest, one, was)

-- the same sums over entries with other values
by_joined : (x : Entries) (es : List (Key × Kept)) (o : List ℕ) (m : Memento) → showing_by (λ e. Some e.1) (map (joined_with x) es) o m ≡ shown_after x es o m
by_joined x [] o m = refl
by_joined x (e ∷ es) o m = let rest = by_joined x es o m in omega (arith, rest)

before_joined : (x : Entries) (es : List (Key × Kept)) (o : List ℕ) (m : Memento)
    → showing_by (λ e. fmap.get x e.0) (map (joined_with x) es) o m ≡ shown_before x es o m
before_joined x [] o m = refl
before_joined x (e ∷ es) o m = let rest = before_joined x es o m in omega (arith, rest)

-- what is joined makes just the difference at its own keys
pub join_shows : (x y : Entries) (o : List ℕ) (m : Memento) → showing (join x y) o m + shown_before x
    (fmap.entries y) o m ≡ showing x o m + shown_after x (fmap.entries y) o m
join_shows x y o m =
    let es = map (joined_with x) (fmap.entries y) in
    let h = put_all_shows x es (joined_sorted x (fmap.entries y) (fmap.entries_sorted y)) o m in
    let joined = ap (λ (z : Entries). showing z o m) (put_joined x y) in
    omega (arith, h, joined, by_joined x (fmap.entries y) o m, before_joined x (fmap.entries y) o m)

-- ---- what showed before

-- an entry that shows nothing
nothing : Kept
nothing = kept_in false (0, set.empty) []

shows_nothing : (m : Memento) → set.contains (mementos_of nothing) m ≡ false
unfolding nothing
shows_nothing m = ap (λ (s : Mementos). set.contains s m)
    (sym (shown_of_one nothing (0, set.empty) (entries_in false (0, set.empty) [] tt))) ∙ contains-empty memento_cmp m

bare : Key × Kept → Key × Kept
bare e = (e.0, nothing)

bare_below : (k : Key) (es : List (Key × Kept)) → T (below_all key_cmp k es) → T (below_all key_cmp k (map bare es))
unfolding bare
bare_below k [] h = tt
bare_below k (e ∷ es) h = let p = two_parts (is_lt (key_cmp k e.0)) (below_all key_cmp k es) h in
    both_parts (is_lt (key_cmp k e.0)) (below_all key_cmp k (map bare es)) p.0 (bare_below k es p.1)

bare_sorted : (es : List (Key × Kept)) → T (fmap.is_sorted key_cmp es) → T (fmap.is_sorted key_cmp (map bare es))
unfolding bare
bare_sorted [] h = tt
bare_sorted (e ∷ es) h = let p = two_parts (below_all key_cmp e.0 es) (fmap.is_sorted key_cmp es) h in
    both_parts (below_all key_cmp e.0 (map bare es)) (fmap.is_sorted key_cmp (map bare es)) (bare_below e.0 es p.0)
    (bare_sorted es p.1)

bare_shows : (es : List (Key × Kept)) (o : List ℕ) (m : Memento) → showing_by (λ e. Some e.1) (map bare es) o m ≡ 0
unfolding bare
bare_shows [] o m = refl
bare_shows (e ∷ es) o m =
    let rest = bare_shows es o m in
    let none : of_original o e.0 (Some nothing) m ≡ 0 = ap (λ b. cond (eq_by_cmp text_cmp o e.0.1) (cond b 1 0) 0) (shows_nothing m) ∙ no_one o e.0 m in
    omega (arith, rest, none)

bare_before : (x : Entries) (es : List (Key × Kept)) (o : List ℕ) (m : Memento) → showing_by (λ e. fmap.get x e.0) (map bare es) o m ≡ shown_before x es o m
unfolding bare
bare_before x [] o m = refl
bare_before x (e ∷ es) o m = let rest = bare_before x es o m in omega (arith, rest)

-- no more archives showed it at some keys than at all
pub before-le : (x y : Entries) (o : List ℕ) (m : Memento) → shown_before x (fmap.entries y) o m ≤ showing x o m
before-le x y o m =
    let es = fmap.entries y in
    let h = put_all_shows x (map bare es) (bare_sorted es (fmap.entries_sorted y)) o m in
    omega (arith, h, bare_shows es o m, bare_before x es o m)

-- ---- how many there may be

one-le : (o : List ℕ) (k : Key) (kept : Option Kept) (m : Memento) → of_original o k kept m ≤ 1
one-le o k kept m = elim (eq_by_cmp text_cmp o k.1) as (λ b. cond b (shows_one kept m) 0 ≤ 1) [ true ↦ some kept | false ↦ omega arith ]
  where
    some : (kept : Option Kept) → shows_one kept m ≤ 1
    some None = omega arith
    some (Some kept) = elim (set.contains (mementos_of kept) m) as (λ b. cond {A = ℕ} b 1 0 ≤ 1) [ true ↦ omega arith | false ↦ omega arith ]

by-le : (es : List (Key × Kept)) (o : List ℕ) (m : Memento) → showing_by (λ e. Some e.1) es o m ≤ length es
by-le [] o m = omega arith
by-le (e ∷ es) o m = let rest = by-le es o m in let one = one-le o e.0 (Some e.1) m in omega (arith, rest, one)

pub showing-le : (x : Entries) (o : List ℕ) (m : Memento) → showing x o m ≤ fmap.len x
showing-le x o m = omega (arith, by-le (fmap.entries x) o m, fmap.len-entries x)

-- ---- what is shown

any_shows : (es : List (Key × Kept)) (o : List ℕ) (m : Memento)
    → (list_any (λ (e : Key × Kept). eq_by_cmp text_cmp o e.0.1 && set.contains (mementos_of e.1) m) es ≡ true
    → 0 < showing_by (λ e. Some e.1) es o m)
    × (list_any (λ (e : Key × Kept). eq_by_cmp text_cmp o e.0.1 && set.contains (mementos_of e.1) m) es ≡ false
    → showing_by (λ e. Some e.1) es o m ≡ 0)
any_shows [] o m = (λ h. absurd (true≢false (sym h)), λ _. refl)
any_shows (e ∷ es) o m =
    by (eq_by_cmp text_cmp o e.0.1) (set.contains (mementos_of e.1) m)
    (list_any (λ (e : Key × Kept). eq_by_cmp text_cmp o e.0.1 && set.contains (mementos_of e.1) m) es)
    (showing_by (λ e. Some e.1) es o m) (any_shows es o m)
  where
    by : (a b c : Bool) (n : ℕ) → (c ≡ true → 0 < n) × (c ≡ false → n ≡ 0)
        → (((a && b) || c) ≡ true → 0 < cond a (cond b 1 0) 0 + n)
        × (((a && b) || c) ≡ false → cond a (cond b 1 0) 0 + n ≡ 0)
    by true true c n h = (λ _. omega arith, λ f. absurd (true≢false f))
    by true false c n h = (λ t. let some = h.0 t in omega arith, λ f. let none = h.1 f in omega arith)
    by false b c n h = (λ t. let some = h.0 t in omega arith, λ f. let none = h.1 f in omega arith)

-- some archive shows what is shown, and none what isn't
pub shown_counts : (x : Entries) (o : List ℕ) (m : Memento) → set.contains (shown_of x o) m ≡ true → 0 < showing x o m
shown_counts x o m h = (any_shows (fmap.entries x) o m).0 (sym (contains-shown_of x o m) ∙ h)

pub not_shown_counts : (x : Entries) (o : List ℕ) (m : Memento) → set.contains (shown_of x o) m ≡ false → showing x o m ≡ 0
not_shown_counts x o m h = (any_shows (fmap.entries x) o m).1 (sym (contains-shown_of x o m) ∙ h)
