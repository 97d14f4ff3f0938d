-- What a restricted state has at a key, and what restrictions and joins make of each other.
use Rattle.std.proofs.Common.{◌≡◌, ℕ, Bool, true, false, cond, ◌&&◌, ◌||◌, List, [], ◌∷◌, ◌++◌, map, fold, Option, Some, None, refl, sym, ap, subst, ◌∙◌}
use Rattle.std.specs.List.{filter, list_any}
use Rattle.std.specs.Ordering.{eq_by_cmp}
use Rattle.std.specs.declared.cmp.Ordering.TheVariants.{Equal}
use Rattle.std.specs.FinMap as fmap
use Rattle.std.specs.FinMap.Entries.{same_entries, where_key, is_sorted-where_key, find-where_key}
use Rattle.memento_sets.specs.Maps.{join_values}
use Rattle.memento_sets.specs.Sets as set
use Rattle.memento_time.specs.Mementos.{text_cmp, memento_cmp}
use Rattle.memento_time.specs.declared.mementos.Memento.{Memento}
use Rattle.harvest_lattice.specs.Lattice.{Key, key_cmp, Kept, Entries, AtMost, join, join_kept}
use Rattle.harvest_lattice.specs.Knowledge.{Harvested, key_of, has_key, lat, shown_of, mementos_of}
use Rattle.harvest_lattice.proofs.Entries.{same_mementos}
use Rattle.harvest_lattice.proofs.EntryOrder.{key_cmp_total, key_cmp_exact, join_semilattice, get-join, joined_at_most, at_most_joined}
use Rattle.harvest_lattice.proofs.Knowledge.{single, single_at, lat-cons, get-lat_nil, get-lat_one, same_key}
use Rattle.harvest_lattice.proofs.KnowledgeShown.{contains-shown_of}
use Rattle.harvest_lattice.proofs.RowLemmas.{join_empty}
use Rattle.harvest_lattice.specs.Rows.{map_with}
use Rattle.harvest_lattice.proofs.Made.{made_of_its_own}
use Rattle.std.proofs.lemmas.List.{append-nil}
use Rattle.harvest_lattice.proofs.ShelfLemmas.{same_text}
use Rattle.memento_sets.proofs.Sets as sets
use Rattle.retention.specs.Restriction.{Rule, restrict, kept_of, IsWithin, KeepsOriginal, DropsOriginal, taken_in}

-- ---- at a key

alike : (keeps : Rule) (q x : Key) → key_cmp q x ≡ Equal → keeps x ≡ keeps q
alike keeps q x tied = ap keeps (sym (key_cmp_exact q x tied))

pub get-restrict : (keeps : Rule) (x : Entries) (k : Key) → fmap.get (restrict keeps x) k ≡ cond (keeps k) (fmap.get x k) None
get-restrict keeps x k = fmap.get-retain_keys x keeps k (alike keeps k)

pub same_state : (x y : Entries) → ((k : Key) → fmap.get x k ≡ fmap.get y k) → x ≡ y
same_state x y h = fmap.same_map key_cmp_total key_cmp_exact x y h

-- the entries are those that are kept, in order
pub entries-restrict : (keeps : Rule) (x : Entries) → fmap.entries (restrict keeps x) ≡ filter (λ e. keeps e.0) (fmap.entries x)
entries-restrict keeps x =
    same_entries key_cmp key_cmp_total key_cmp_exact (fmap.entries (restrict keeps x)) (where_key key_cmp keeps (fmap.entries x))
    (fmap.entries_sorted (restrict keeps x)) (is_sorted-where_key key_cmp keeps (fmap.entries x) (fmap.entries_sorted x)) (λ q.
    sym (fmap.get-entries (restrict keeps x) q)
    ∙ (fmap.get-retain_keys x keeps q (alike keeps q)
    ∙ (ap (λ (o : Option Kept). cond (keeps q) o None) (fmap.get-entries x q)
    ∙ sym (find-where_key key_cmp keeps q (alike keeps q) (fmap.entries x)))))

-- ---- and joins

joined_cond : (b : Bool) (u v : Option Kept) → cond b (join_values join_kept u v) None ≡ join_values join_kept (cond b u None) (cond b v None)
joined_cond true u v = refl
joined_cond false u v = refl

pub restrict-join : (keeps : Rule) (x y : Entries) → restrict keeps (join x y) ≡ join (restrict keeps x) (restrict keeps y)
restrict-join keeps x y = same_state _ _ (λ k.
    get-restrict keeps (join x y) k
    ∙ (ap (λ (o : Option Kept). cond (keeps k) o None) (get-join x y k)
    ∙ (joined_cond (keeps k) (fmap.get x k) (fmap.get y k)
    ∙ ((λ i. join_values join_kept (sym (get-restrict keeps x k) i) (sym (get-restrict keeps y k) i))
    ∙ sym (get-join (restrict keeps x) (restrict keeps y) k)))))

-- ---- one after the other

twice : (a b : Bool) (o : Option Kept) → cond b (cond a o None) None ≡ cond (b && a) o None
twice a true o = refl
twice a false o = refl

pub restrict-restrict : (first second : Rule) (x : Entries) → restrict second (restrict first x) ≡ restrict (λ k. second k && first k) x
restrict-restrict first second x = same_state _ _ (λ k.
    get-restrict second (restrict first x) k
    ∙ (ap (λ (o : Option Kept). cond (second k) o None) (get-restrict first x k)
    ∙ (twice (first k) (second k) (fmap.get x k) ∙ sym (get-restrict (λ k. second k && first k) x k))))

inner_alone : (i o : Bool) → (i ≡ true → o ≡ true) → (v : Option Kept) → cond i (cond o v None) None ≡ cond i v None
inner_alone true o h v = ap (λ b. cond b v None) (h refl)
inner_alone false o h v = refl

pub restrict-within : (inner outer : Rule) (x : Entries) → IsWithin inner outer → restrict inner (restrict outer x) ≡ restrict inner x
restrict-within inner outer x within = same_state _ _ (λ k.
    get-restrict inner (restrict outer x) k
    ∙ (ap (λ (o : Option Kept). cond (inner k) o None) (get-restrict outer x k)
    ∙ (inner_alone (inner k) (outer k) (within k) (fmap.get x k) ∙ sym (get-restrict inner x k))))

pub restrict-again : (keeps : Rule) (x : Entries) → restrict keeps (restrict keeps x) ≡ restrict keeps x
restrict-again keeps x = restrict-within keeps keeps x (λ k is. is)

-- ---- in the order of states

less_at : (b : Bool) (u : Option Kept) → join_values join_kept u u ≡ u → join_values join_kept (cond b u None) u ≡ u
less_at true u e = e
less_at false u e = refl

idem_at : (x : Entries) (k : Key) → join_values join_kept (fmap.get x k) (fmap.get x k) ≡ fmap.get x k
idem_at x k = sym (get-join x x k) ∙ ap (λ (y : Entries). fmap.get y k) (join_semilattice.idem x)

pub restrict_less : (keeps : Rule) (x : Entries) → AtMost (restrict keeps x) x
restrict_less keeps x = at_most_joined (restrict keeps x) x (same_state _ _ (λ k.
    get-join (restrict keeps x) x k
    ∙ (ap (λ (o : Option Kept). join_values join_kept o (fmap.get x k)) (get-restrict keeps x k)
    ∙ less_at (keeps k) (fmap.get x k) (idem_at x k))))

pub restrict_monotone : (keeps : Rule) (x y : Entries) → AtMost x y → AtMost (restrict keeps x) (restrict keeps y)
restrict_monotone keeps x y le = at_most_joined (restrict keeps x) (restrict keeps y)
    (sym (restrict-join keeps x y) ∙ ap (restrict keeps) (joined_at_most x y le))

-- ---- what comes

pub taken-one : (inner outer : Rule) (x y : Entries) → IsWithin inner outer → restrict inner (taken_in outer x y) ≡ restrict inner (join x y)
taken-one inner outer x y within =
    restrict-join inner x (restrict outer y)
    ∙ (ap (join (restrict inner x)) (restrict-within inner outer y within) ∙ sym (restrict-join inner x y))

pub taken-all : (inner outer : Rule) (x : Entries) (ys : List Entries) → IsWithin inner outer
    → restrict inner (fold (taken_in outer) x ys) ≡ fold (λ was y. join was y) (restrict inner x) (map (restrict inner) ys)
taken-all inner outer x [] within = refl
taken-all inner outer x (y ∷ ys) within =
    taken-all inner outer (taken_in outer x y) ys within
    ∙ ap (λ (was : Entries). fold (λ was y. join was y) was (map (restrict inner) ys))
    (taken-one inner outer x y within ∙ restrict-join inner x y)

pub stays_gone : (keeps : Rule) (x y : Entries) (k : Key) → keeps k ≡ false → fmap.get x k ≡ None → fmap.get (taken_in keeps x y) k ≡ None
stays_gone keeps x y k drops none =
    get-join x (restrict keeps y) k
    ∙ ((λ i. join_values join_kept (none i) (get-restrict keeps y k i))
    ∙ ap (λ b. cond b (fmap.get y k) None) drops)

pub still_reached : (inner outer : Rule) (y x : Entries) → IsWithin inner outer → AtMost (restrict outer y) x → AtMost (restrict inner y) (restrict inner x)
still_reached inner outer y x within le =
    subst (λ (z : Entries). AtMost z (restrict inner x)) (restrict-within inner outer y within)
    (restrict_monotone inner (restrict outer y) x le)

pub get-kept : (keeps : Rule) (x : Entries) (k : Key) → keeps k ≡ true → fmap.get (restrict keeps x) k ≡ fmap.get x k
get-kept keeps x k is = get-restrict keeps x k ∙ ap (λ b. cond b (fmap.get x k) None) is

pub get-gone : (keeps : Rule) (x : Entries) (k : Key) → keeps k ≡ false → fmap.get (restrict keeps x) k ≡ None
get-gone keeps x k is = get-restrict keeps x k ∙ ap (λ b. cond b (fmap.get x k) None) is

-- ---- what is shown

any_filter : {X : Type 0} (q p : X → Bool) (xs : List X) → list_any p (filter q xs) ≡ list_any (λ x. q x && p x) xs
any_filter q p [] = refl
any_filter q p (x ∷ xs) =
    elim (q x) as (λ b. list_any p (cond b (x ∷ filter q xs) (filter q xs)) ≡ ((b && p x) || list_any (λ x. q x && p x) xs)) [
      | true ↦ ap (λ t. p x || t) (any_filter q p xs)
      | false ↦ any_filter q p xs
    ]

any_same : {X : Type 0} (f g : X → Bool) (xs : List X) → ((x : X) → f x ≡ g x) → list_any f xs ≡ list_any g xs
any_same f g [] same = refl
any_same f g (x ∷ xs) same = (λ i. same x i || any_same f g xs same i)

any_none : {X : Type 0} (f : X → Bool) (xs : List X) → ((x : X) → f x ≡ false) → list_any f xs ≡ false
any_none f [] none = refl
any_none f (x ∷ xs) none = (λ i. none x i || any_none f xs none i)

abbrev row_shows : List ℕ → Memento → Key × Kept → Bool
row_shows o m e = eq_by_cmp text_cmp o e.0.1 && set.contains (mementos_of e.1) m

contains-restricted : (keeps : Rule) (x : Entries) (o : List ℕ) (m : Memento) → set.contains (shown_of (restrict keeps x) o) m
    ≡ list_any (λ (e : Key × Kept). keeps e.0 && row_shows o m e) (fmap.entries x)
contains-restricted keeps x o m =
    contains-shown_of (restrict keeps x) o m
    ∙ (ap (list_any (row_shows o m)) (entries-restrict keeps x) ∙ any_filter (λ (e : Key × Kept). keeps e.0) (row_shows o m) (fmap.entries x))

kept_shows : (keeps : Rule) (o : List ℕ) (m : Memento) → KeepsOriginal keeps o → (e : Key × Kept) → (keeps e.0 && row_shows o m e) ≡ row_shows o m e
kept_shows keeps o m all e =
    elim (eq_by_cmp text_cmp o e.0.1) as (λ b. eq_by_cmp text_cmp o e.0.1 ≡ b
    → (keeps e.0 && (b && set.contains (mementos_of e.1) m)) ≡ (b && set.contains (mementos_of e.1) m)) [
      | true ↦ λ is. ap (λ c. c && set.contains (mementos_of e.1) m)
          (ap (λ (q : List ℕ). keeps (e.0.0, q)) (sym (same_text o e.0.1 is)) ∙ all e.0.0)
      | false ↦ λ _. no_row (keeps e.0)
    ] refl
  where
    no_row : (b : Bool) → (b && false) ≡ false
    no_row true = refl
    no_row false = refl

dropped_shows : (keeps : Rule) (o : List ℕ) (m : Memento) → DropsOriginal keeps o → (e : Key × Kept) → (keeps e.0 && row_shows o m e) ≡ false
dropped_shows keeps o m none e =
    elim (eq_by_cmp text_cmp o e.0.1) as (λ b. eq_by_cmp text_cmp o e.0.1 ≡ b
    → (keeps e.0 && (b && set.contains (mementos_of e.1) m)) ≡ false) [
      | true ↦ λ is. ap (λ c. c && set.contains (mementos_of e.1) m)
          (ap (λ (q : List ℕ). keeps (e.0.0, q)) (sym (same_text o e.0.1 is)) ∙ none e.0.0)
      | false ↦ λ _. no_row (keeps e.0)
    ] refl
  where
    no_row : (b : Bool) → (b && false) ≡ false
    no_row true = refl
    no_row false = refl

pub shown-kept : (keeps : Rule) (x : Entries) (o : List ℕ) → KeepsOriginal keeps o → shown_of (restrict keeps x) o ≡ shown_of x o
shown-kept keeps x o all = same_mementos _ _ (λ m.
    contains-restricted keeps x o m
    ∙ (any_same (λ (e : Key × Kept). keeps e.0 && row_shows o m e) (row_shows o m) (fmap.entries x) (kept_shows keeps o m all)
    ∙ sym (contains-shown_of x o m)))

pub shown-dropped : (keeps : Rule) (x : Entries) (o : List ℕ) → DropsOriginal keeps o → shown_of (restrict keeps x) o ≡ set.empty
shown-dropped keeps x o none = same_mementos _ _ (λ m.
    contains-restricted keeps x o m
    ∙ (any_none (λ (e : Key × Kept). keeps e.0 && row_shows o m e) (fmap.entries x) (dropped_shows keeps o m none)
    ∙ sym (sets.contains-empty memento_cmp m)))

-- ---- harvests

none_cond : (b : Bool) → cond b None None ≡ (let o : Option Kept = None in o)
none_cond true = refl
none_cond false = refl

at_one : (keeps : Rule) (h : Harvested) (k : Key) (b : Bool) → keeps (key_of h) ≡ b → cond (keeps k) (single_at k h) None ≡ cond b (single_at k h) None
at_one keeps h k b e =
    elim (has_key k h) as (λ t. has_key k h ≡ t → cond (keeps k) (cond t (Some (single h)) None) None ≡ cond b (cond t (Some (single h)) None) None) [
      | true ↦ λ is. ap (λ c. cond c (Some (single h)) None) (ap keeps (same_key k (key_of h) is) ∙ e)
      | false ↦ λ _. none_cond (keeps k) ∙ sym (none_cond b)
    ] refl

get-one : (keeps : Rule) (h : Harvested) (b : Bool) → keeps (key_of h) ≡ b → (k : Key) → fmap.get (restrict keeps (lat (h ∷ []))) k ≡ cond b (single_at k h) None
get-one keeps h b e k =
    get-restrict keeps (lat (h ∷ [])) k
    ∙ (ap (λ (o : Option Kept). cond (keeps k) o None) (get-lat_one h k) ∙ at_one keeps h k b e)

one_kept : (keeps : Rule) (h : Harvested) → keeps (key_of h) ≡ true → restrict keeps (lat (h ∷ [])) ≡ lat (h ∷ [])
one_kept keeps h is = same_state _ _ (λ k. get-one keeps h true is k ∙ sym (get-lat_one h k))

one_dropped : (keeps : Rule) (h : Harvested) → keeps (key_of h) ≡ false → restrict keeps (lat (h ∷ [])) ≡ fmap.empty
one_dropped keeps h is = same_state _ _ (λ k. get-one keeps h false is k ∙ sym (fmap.get-empty key_cmp k))

none_kept : (keeps : Rule) → restrict keeps (lat []) ≡ lat []
none_kept keeps = same_state _ _ (λ k.
    get-restrict keeps (lat []) k
    ∙ (ap (λ (o : Option Kept). cond (keeps k) o None) (get-lat_nil k) ∙ (none_cond (keeps k) ∙ sym (get-lat_nil k))))

pub restrict-lat : (keeps : Rule) (hs : List Harvested) → restrict keeps (lat hs) ≡ lat (kept_of keeps hs)
restrict-lat keeps [] = none_kept keeps
restrict-lat keeps (h ∷ hs) =
    ap (restrict keeps) (lat-cons h hs)
    ∙ (restrict-join keeps (lat (h ∷ [])) (lat hs)
    ∙ elim (keeps (key_of h)) as (λ b. keeps (key_of h) ≡ b
    → join (restrict keeps (lat (h ∷ []))) (restrict keeps (lat hs)) ≡ lat (cond b (h ∷ kept_of keeps hs) (kept_of keeps hs))) [
      | true ↦ λ is.
          (λ i. join (one_kept keeps h is i) (restrict-lat keeps hs i)) ∙ sym (lat-cons h (kept_of keeps hs))
      | false ↦ λ is.
          (λ i. join (one_dropped keeps h is i) (restrict-lat keeps hs i)) ∙ join_empty (lat (kept_of keeps hs))
    ] refl)

-- ---- rows

-- once no entry is left, the rows make the restriction
pub made : (k : Rule) (x : Entries) (es left : List (Key × Kept)) → left ≡ [] → es ++ filter (λ (e : Key × Kept). k e.0) left ≡ filter (λ (e : Key × Kept). k e.0) (fmap.entries x)
    → map_with es ≡ Some (restrict k x)
made k x es left none is =
    let whole : es ≡ filter (λ (e : Key × Kept). k e.0) (fmap.entries x) =
    sym (append-nil es) ∙ (ap (λ (rest : List (Key × Kept)). es ++ filter (λ (e : Key × Kept). k e.0) rest) (sym none) ∙ is) in
    (made_of_its_own es (restrict k x)).1 (entries-restrict k x ∙ sym whole)
