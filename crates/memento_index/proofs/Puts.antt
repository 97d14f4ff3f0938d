-- Entries put over a state, one after the other.
use Rattle.std.proofs.Common.{◌≡◌, true, false, cond, map, List, [], ◌∷◌, Option, Some, None, refl, sym, ap, ◌∙◌}
use Rattle.std.specs.Prelude.{T}
use Rattle.std.specs.Ordering.{eq_by_cmp, is_lt}
use Rattle.std.specs.Option.{option_map, unwrap_or}
use Rattle.std.specs.FinMap as fmap
use Rattle.std.specs.FinMap.Entries.{below_all}
use Rattle.memento_sets.specs.Maps.{join_values}
use Rattle.memento_sets.proofs.Sets.{two_parts, both_parts}
use Rattle.harvest_lattice.specs.Lattice.{Key, key_cmp, Kept, Entries, join_kept, join, join_at}
use Rattle.harvest_lattice.proofs.EntryOrder.{key_cmp_total, key_cmp_exact, get-join}
use Rattle.harvest_lattice.proofs.Knowledge.{same_key}

-- a state with these entries put over its own
abbrev pub put_all : List (Key × Kept) → Entries → Entries
put_all [] x = x
put_all (e ∷ es) x = fmap.insert (put_all es x) e.0 e.1

-- what is put at a key, or else what was there
abbrev pub or_else : Option Kept → Option Kept → Option Kept
or_else None was = was
or_else (Some put) was = Some put

-- an entry as it stands in the join
abbrev pub joined_with : Entries → Key × Kept → Key × Kept
joined_with x e = (e.0, join_at x e)

pub joined_there : (m : Entries) (e : Key × Kept) (v : Kept) → fmap.get m e.0 ≡ Some v → join_at m e ≡ join_kept v e.1
joined_there m e v there = ap (λ o. unwrap_or (join_values join_kept o (Some e.1)) e.1) there

pub joined_alone : (m : Entries) (e : Key × Kept) → fmap.get m e.0 ≡ None → join_at m e ≡ e.1
joined_alone m e none = ap (λ o. unwrap_or (join_values join_kept o (Some e.1)) e.1) none

pub get-put_all : (es : List (Key × Kept)) (m : Entries) (q : Key) → fmap.get (put_all es m) q ≡ or_else (fmap.find key_cmp q es) (fmap.get m q)
get-put_all [] m q = refl
get-put_all (e ∷ es) m q =
    fmap.get-insert key_cmp_total (put_all es m) e.0 e.1 q
    ∙ elim (eq_by_cmp key_cmp q e.0) as (λ b. cond b (Some e.1) (fmap.get (put_all es m) q)
    ≡ or_else (cond b (Some e.1) (fmap.find key_cmp q es)) (fmap.get m q)) [
      | true ↦ refl
      | false ↦ get-put_all es m q
    ]

find-joined : (x : Entries) (es : List (Key × Kept)) (q : Key) → fmap.find key_cmp q (map (joined_with x) es)
    ≡ option_map (λ v. join_at x (q, v)) (fmap.find key_cmp q es)
find-joined x [] q = refl
find-joined x (e ∷ es) q =
    elim (eq_by_cmp key_cmp q e.0) as (λ b. eq_by_cmp key_cmp q e.0 ≡ b
    → cond b (Some (join_at x e)) (fmap.find key_cmp q (map (joined_with x) es))
    ≡ option_map (λ v. join_at x (q, v)) (cond b (Some e.1) (fmap.find key_cmp q es))) [
      | true ↦ λ t. ap (λ (k : Key). Some (join_at x (k, e.1))) (sym (same_key q e.0 t))
      | false ↦ λ _. find-joined x es q
    ] refl

or_joined : (a b : Option Kept) → or_else (option_map (λ v. unwrap_or (join_values join_kept a (Some v)) v) b) a ≡ join_values join_kept a b
or_joined None None = refl
or_joined None (Some b) = refl
or_joined (Some a) None = refl
or_joined (Some a) (Some b) = refl

-- to put what the join has at the keys of y is to join y
pub put_joined : (x y : Entries) → put_all (map (joined_with x) (fmap.entries y)) x ≡ join x y
put_joined x y = fmap.same_map key_cmp_total key_cmp_exact _ _ (λ q.
    get-put_all (map (joined_with x) (fmap.entries y)) x q
    ∙ (ap (λ o. or_else o (fmap.get x q)) (find-joined x (fmap.entries y) q)
    ∙ (ap (λ o. or_else (option_map (λ v. join_at x (q, v)) o) (fmap.get x q)) (sym (fmap.get-entries y q))
    ∙ (or_joined (fmap.get x q) (fmap.get y q) ∙ sym (get-join x y q)))))

below_joined : (x : Entries) (k : Key) (es : List (Key × Kept)) → T (below_all key_cmp k es) → T (below_all key_cmp k (map (joined_with x) es))
below_joined x k [] h = tt
below_joined x k (e ∷ es) h = let p = two_parts (is_lt (key_cmp k e.0)) (below_all key_cmp k es) h in
    both_parts (is_lt (key_cmp k e.0)) (below_all key_cmp k (map (joined_with x) es)) p.0 (below_joined x k es p.1)

-- what stands in the join at the keys of entries in order stands in order
pub joined_sorted : (x : Entries) (es : List (Key × Kept)) → T (fmap.is_sorted key_cmp es) → T (fmap.is_sorted key_cmp (map (joined_with x) es))
joined_sorted x [] h = tt
joined_sorted x (e ∷ es) h = let p = two_parts (below_all key_cmp e.0 es) (fmap.is_sorted key_cmp es) h in
    both_parts (below_all key_cmp e.0 (map (joined_with x) es)) (fmap.is_sorted key_cmp (map (joined_with x) es))
    (below_joined x e.0 es p.0) (joined_sorted x es p.1)
