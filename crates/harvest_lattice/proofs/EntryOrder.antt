-- The laws of the join of two entries, their order, and both for maps of entries.
use Rattle.std.proofs.Common.{◌≡◌, ℕ, ◌≤◌, Bool, true, false, cond, ◌&&◌, max, [], Option}
use Rattle.std.proofs.Common.{Some, None, IfSome, refl, sym, ap, ◌∙◌, arith}
use Rattle.std.specs.Option.{MatchOption}
use Rattle.std.specs.Ordering.{eq_by_cmp, nat_cmp}
use Rattle.std.specs.Cmp.{IsTotalOrder, on_total, then_total, nat_cmp_total}
use Rattle.std.specs.Cmp.Lexicographic.{nat_list_cmp_total}
use Rattle.std.specs.FinMap as map
use Rattle.memento_sets.specs.Sets as set
use Rattle.memento_time.specs.Mementos.{text_cmp}
use Rattle.std.proofs.lemmas.Option.{none-some, same_Some}
use Rattle.std.proofs.lemmas.Map.Lookups.{exact_pairs}
use Rattle.memento_sets.specs.Maps.{join_values}
use Rattle.memento_sets.specs.MementoSets.{Mementos}
use Rattle.memento_sets.proofs.Semilattice.{IsSemilattice, values_semilattice, join_trans, join_antisymm, join_left, join_right, join_least}
use Rattle.memento_sets.proofs.Maps.{maps_semilattice, get-join_by}
use Rattle.harvest_lattice.specs.Lattice.{Key, key_cmp, Revisions, Kept, Entries, least, whole, held}
use Rattle.harvest_lattice.specs.Lattice.{not_before, IsNoLater, IsWithin, KeptAtMost, AtMost}
use Rattle.harvest_lattice.specs.Lattice.{kept_from, revisions-kept_from, is_whole-kept_from, join_kept}
use Rattle.harvest_lattice.specs.Lattice.{join}
use Rattle.harvest_lattice.proofs.Entries.{union_semilattice, union_subset, subset_union, revision_itself, same_revision, least_is, same_kept, whole_of, held_of, held_from_whole}
use Rattle.harvest_lattice.proofs.Entries.{nb-max, both_held, whole-join_kept, held-join_kept}

-- ---- the laws of the join

max_semilattice : IsSemilattice max
max_semilattice = record { assoc = λ a b c. omega arith; comm = λ a b. omega arith; idem = λ a. omega arith }

abbrev wholes : IsSemilattice (join_values max)
wholes = values_semilattice max_semilattice

abbrev helds : IsSemilattice both_held
helds = values_semilattice union_semilattice

-- the tests are whether a revision is no older than each of the whole ones
three : (a b c : Bool) (u v w : Option Mementos) →
    cond ((a && b) && c) (both_held (cond (a && b) (both_held u v) None) w) None ≡ cond (a && (b && c)) (both_held u (cond (b && c) (both_held v w) None)) None
three true true true u v w = helds.assoc u v w
three true true false u v w = refl
three true false c u v w = refl
three false b c u v w = refl

two : (a b : Bool) (u v : Option Mementos) → cond (a && b) (both_held u v) None ≡ cond (b && a) (both_held v u) None
two true true u v = helds.comm u v
two true false u v = refl
two false true u v = refl
two false false u v = refl

one : (a : Bool) (u : Option Mementos) → u ≡ cond a u None → cond (a && a) (both_held u u) None ≡ u
one true u e = helds.idem u
one false u e = sym e

-- what a join has at a revision, by the two tests
held-join : (a b : Kept) (q : ℕ) → held (join_kept a b) q ≡ cond (not_before (whole a) q && not_before (whole b) q) (both_held (held a q) (held b q)) None
held-join a b q = held-join_kept a b q ∙ ap (λ t. cond t (both_held (held a q) (held b q)) None) (nb-max (whole a) (whole b) q)

nb-join : (a b : Kept) (q : ℕ) → not_before (whole (join_kept a b)) q ≡ (not_before (whole a) q && not_before (whole b) q)
nb-join a b q = ap (λ w. not_before w q) (whole-join_kept a b) ∙ nb-max (whole a) (whole b) q

join_assoc : (a b c : Kept) → join_kept (join_kept a b) c ≡ join_kept a (join_kept b c)
join_assoc a b c = same_kept _ _
    (whole-join_kept (join_kept a b) c ∙ (ap (λ w. join_values max w (whole c)) (whole-join_kept a b)
    ∙ (wholes.assoc (whole a) (whole b) (whole c)
    ∙ (ap (join_values max (whole a)) (sym (whole-join_kept b c)) ∙ sym (whole-join_kept a (join_kept b c))))))
    (λ q.
    let na = not_before (whole a) q in
    let nb = not_before (whole b) q in
    let nc = not_before (whole c) q in
    held-join (join_kept a b) c q
    ∙ ((λ i. cond (nb-join a b q i && nc) (both_held (held-join a b q i) (held c q)) None)
    ∙ (three na nb nc (held a q) (held b q) (held c q)
    ∙ ((λ i. cond (na && sym (nb-join b c q) i) (both_held (held a q) (sym (held-join b c q) i)) None)
    ∙ sym (held-join a (join_kept b c) q)))))

join_comm : (a b : Kept) → join_kept a b ≡ join_kept b a
join_comm a b = same_kept _ _
    (whole-join_kept a b ∙ (wholes.comm (whole a) (whole b) ∙ sym (whole-join_kept b a)))
    (λ q. held-join a b q ∙ (two (not_before (whole a) q) (not_before (whole b) q) (held a q) (held b q) ∙ sym (held-join b a q)))

join_idem : (a : Kept) → join_kept a a ≡ a
join_idem a = same_kept _ _
    (whole-join_kept a a ∙ wholes.idem (whole a))
    (λ q. held-join a a q ∙ one (not_before (whole a) q) (held a q) (held_from_whole (Some a) q))

pub entry_semilattice : IsSemilattice join_kept
entry_semilattice = record { assoc = join_assoc; comm = join_comm; idem = join_idem }

-- ---- the order of entries

later_whole : (u v : Option ℕ) → IsNoLater u v → join_values max u v ≡ v
later_whole None v h = refl
later_whole (Some a) None h = absurd h
later_whole (Some a) (Some b) h = let e : max a b ≡ b = omega arith in ap Some e

whole_later : (u v : Option ℕ) → join_values max u v ≡ v → IsNoLater u v
whole_later None v e = tt
whole_later (Some a) None e = absurd (none-some a (sym e))
whole_later (Some a) (Some b) e = let m : max a b ≡ b = same_Some (max a b) b e in omega arith

within_joined : (u v : Option Mementos) → IsWithin u v → both_held u v ≡ v
within_joined None v h = refl
within_joined (Some s) None h = absurd h
within_joined (Some s) (Some t) h = ap Some (union_subset s t h)

joined_within : (u v : Option Mementos) → both_held u v ≡ v → IsWithin u v
joined_within None v e = tt
joined_within (Some s) None e = absurd (none-some s (sym e))
joined_within (Some s) (Some t) e = subset_union s t (same_Some (set.union s t) t e)

where_tested : (b : Bool) (u v : Option Mementos) → v ≡ cond b v None → (b ≡ true → IsWithin u v) → cond b (both_held u v) None ≡ v
where_tested true u v e h = within_joined u v (h refl)
where_tested false u v e h = sym e

pub join_from_at_most : (a b : Kept) → KeptAtMost a b → join_kept a b ≡ b
join_from_at_most a b le = same_kept _ _
    (whole-join_kept a b ∙ later_whole (whole a) (whole b) le.by_whole)
    (λ q. held-join_kept a b q
    ∙ (ap (λ w. cond (not_before w q) (both_held (held a q) (held b q)) None) (later_whole (whole a) (whole b) le.by_whole)
    ∙ where_tested (not_before (whole b) q) (held a q) (held b q) (held_from_whole (Some b) q) (le.by_revision q)))

pub at_most_from_join : (a b : Kept) → join_kept a b ≡ b → KeptAtMost a b
at_most_from_join a b e =
    let w : join_values max (whole a) (whole b) ≡ whole b = sym (whole-join_kept a b) ∙ ap whole e in
    record {
      by_whole = whole_later (whole a) (whole b) w;
      by_revision = λ q t.
          joined_within (held a q) (held b q)
          (sym (held-join_kept a b q
          ∙ (ap (λ l. cond (not_before l q) (both_held (held a q) (held b q)) None) w
          ∙ ap (λ c. cond c (both_held (held a q) (held b q)) None) t))
          ∙ ap (λ k. held k q) e);
    }

-- ---- keys

pub key_cmp_total : IsTotalOrder key_cmp
key_cmp_total = then_total (on_total (λ k. k.0) nat_list_cmp_total) (on_total (λ k. k.1) nat_list_cmp_total)

pub key_cmp_exact : map.IsAntisymmetric key_cmp
key_cmp_exact = exact_pairs text_cmp text_cmp (map.slice_cmp-IsAntisymmetric map.nat_cmp-IsAntisymmetric)
    (map.slice_cmp-IsAntisymmetric map.nat_cmp-IsAntisymmetric)

-- ---- maps of entries

pub join_semilattice : IsSemilattice join
join_semilattice = maps_semilattice key_cmp_total key_cmp_exact join_kept entry_semilattice

pub get-join : (x y : Entries) (k : Key) → map.get (join x y) k ≡ join_values join_kept (map.get x k) (map.get y k)
get-join x y k = get-join_by key_cmp_total key_cmp_exact join_kept x y k

abbrev ValueAtMost : Option Kept → Option Kept → Type 0
ValueAtMost a b = IfSome a (λ e. MatchOption b ⊥ (λ f. KeptAtMost e f))

value_join : (a b : Option Kept) → ValueAtMost a b → join_values join_kept a b ≡ b
value_join None b h = refl
value_join (Some a) None h = absurd h
value_join (Some a) (Some b) h = ap Some (join_from_at_most a b h)

value_at_most : (a b : Option Kept) → join_values join_kept a b ≡ b → ValueAtMost a b
value_at_most None b e = tt
value_at_most (Some a) None e = absurd (none-some a (sym e))
value_at_most (Some a) (Some b) e = at_most_from_join a b (same_Some _ _ e)

pub joined_at_most : (x y : Entries) → AtMost x y → join x y ≡ y
joined_at_most x y h = map.same_map key_cmp_total key_cmp_exact _ _ (λ k. get-join x y k ∙ value_join (map.get x k) (map.get y k) (h k))

pub at_most_joined : (x y : Entries) → join x y ≡ y → AtMost x y
at_most_joined x y e k = value_at_most (map.get x k) (map.get y k) (sym (get-join x y k) ∙ ap (λ (m : Entries). map.get m k) e)

-- ---- the order of maps

pub at_most_refl : (x : Entries) → AtMost x x
at_most_refl x = at_most_joined x x (join_semilattice.idem x)

pub at_most_trans : (x y z : Entries) → AtMost x y → AtMost y z → AtMost x z
at_most_trans x y z xy yz = at_most_joined x z (join_trans join_semilattice x y z (joined_at_most x y xy) (joined_at_most y z yz))

pub at_most_antisymm : (x y : Entries) → AtMost x y → AtMost y x → x ≡ y
at_most_antisymm x y xy yx = join_antisymm join_semilattice x y (joined_at_most x y xy) (joined_at_most y x yx)

pub at_most_left : (x y : Entries) → AtMost x (join x y)
at_most_left x y = at_most_joined x (join x y) (join_left join_semilattice x y)

pub at_most_right : (x y : Entries) → AtMost y (join x y)
at_most_right x y = at_most_joined y (join x y) (join_right join_semilattice x y)

pub at_most_least : (x y z : Entries) → AtMost x z → AtMost y z → AtMost (join x y) z
at_most_least x y z xz yz = at_most_joined (join x y) z (join_least join_semilattice x y z (joined_at_most x z xz) (joined_at_most y z yz))

-- of two values, if one may be missing
pub joined_with_none : {X : Type 0} (f : X → X → X) (o : Option X) → join_values f o None ≡ o
joined_with_none f None = refl
joined_with_none f (Some x) = refl

pub none_joined : {X : Type 0} (f : X → X → X) (was more : Option X) → join_values f was more ≡ None → was ≡ None
none_joined f None more none = refl
none_joined f (Some v) None none = none
none_joined f (Some v) (Some w) none = cc

pub held_with_none : (held : Option Mementos) → both_held held None ≡ held
held_with_none None = refl
held_with_none (Some s) = refl

pub whole-joined : (x y : Option Kept) → whole_of (join_values join_kept x y) ≡ join_values max (whole_of x) (whole_of y)
whole-joined None y = refl
whole-joined (Some a) None = sym (joined_with_none max (whole a))
whole-joined (Some a) (Some b) = whole-join_kept a b

pub held-joined : (x y : Option Kept) (q : ℕ) → held_of (join_values join_kept x y) q
    ≡ cond (not_before (join_values max (whole_of x) (whole_of y)) q) (both_held (held_of x q) (held_of y q)) None
held-joined None y q = held_from_whole y q
held-joined (Some a) None q =
    held_from_whole (Some a) q ∙ (λ i. cond (not_before (sym (joined_with_none max (whole a)) i) q) (sym (held_with_none (held a q)) i) None)
held-joined (Some a) (Some b) q = held-join_kept a b q

-- ---- a revision among others

pub held-kept_from : (w : Bool) (r : ℕ) (s : Mementos) (others : Revisions) (q : ℕ) → held (kept_from w r s others) q
    ≡ cond (eq_by_cmp nat_cmp q r) (Some s) (map.get others q)
held-kept_from w r s others q = ap (λ (m : Revisions). map.get m q) (revisions-kept_from w r s others) ∙ map.get-insert nat_cmp_total others r s q

-- where no other is less, that one may be whole
pub whole-kept_from : (w : Bool) (r : ℕ) (s : Mementos) (others : Revisions)
    → ((q : ℕ) (t : Mementos) → map.get others q ≡ Some t → r ≤ q) → whole (kept_from w r s others)
    ≡ cond w (Some r) None
whole-kept_from w r s others low =
    (λ i. cond (is_whole-kept_from w r s others i) (least (revisions-kept_from w r s others i)) None)
    ∙ ap (λ l. cond w l None) (least_is (map.insert others r s) r s
    (get_m r ∙ ap (λ b. cond b (Some s) (map.get others r)) (revision_itself r))
    (λ q t found. low_at q t (sym (get_m q) ∙ found)))
  where
    get_m : (q : ℕ) → map.get (map.insert others r s) q ≡ cond (eq_by_cmp nat_cmp q r) (Some s) (map.get others q)
    get_m q = map.get-insert nat_cmp_total others r s q

    low_at : (q : ℕ) (t : Mementos) → cond (eq_by_cmp nat_cmp q r) (Some s) (map.get others q) ≡ Some t → r ≤ q
    low_at q t found =
        elim (eq_by_cmp nat_cmp q r) as (λ b. eq_by_cmp nat_cmp q r ≡ b → cond b (Some s) (map.get others q) ≡ Some t → r ≤ q) [
          | true ↦ λ same _. let e : q ≡ r = same_revision q r same in omega arith
          | false ↦ λ _ rest. low q t rest
        ] refl found
