-- What slots hold, as the stamps of a state.
use Rattle.std.proofs.Common.{◌≡◌, ℕ, true, false, cond, ◌++◌, List, [], ◌∷◌, Option, Some, None, is_some, IsSome, refl, sym, ap, subst, ◌∙◌}
use Rattle.std.specs.Prelude.{T}
use Rattle.std.specs.declared.cmp.Ordering.TheVariants.{Less}
use Rattle.std.specs.List.{AllByRecursion}
use Rattle.std.specs.List.Sorted.{IsStrictlySortedBy}
use Rattle.std.specs.Map.{lookup, keys_of}
use Rattle.std.specs.BTreeMap as tree
use Rattle.std.specs.BTreeMap.{is_at}
use Rattle.std.specs.Ordering.{eq_by_cmp, is_lt, is_eq}
use Rattle.std.specs.Cmp.{tied_itself, eq_by_cmp_equiv}
use Rattle.std.specs.Cmp.Lexicographic.{nat_list_cmp_total}
use Rattle.std.specs.FinMap as fmap
use Rattle.std.specs.Option.{option_or}
use Rattle.std.proofs.lemmas.Option.{none-some}
use Rattle.std.proofs.lemmas.Bool.{true≢false}
use Rattle.std.specs.FinMap.Entries.{below_all}
use Rattle.memento_time.specs.Mementos.{text_cmp}
use Rattle.memento_sets.proofs.Rising.{from_keys}
use Rattle.memento_sets.proofs.Sets.{less_from, two_parts}
use Rattle.harvest_lattice.specs.Lattice.{Key, key_cmp}
use Rattle.harvest_lattice.proofs.EntryOrder.{key_cmp_total, key_cmp_exact}
use Rattle.harvest_lattice.proofs.ShelfLemmas.{text_exact, same_text, lookup-find, find_both, tie, apart, none_after, or_none}
use Rattle.replica_exchange.specs.StampShelves.{Slots, Shelves, slot_of, slot, stamp_in, slot_rows, shelf_rows, all_rows, stamps_in}
use Rattle.memento_index.proofs.ListLemmas.{none_there}

-- no original is found among greater ones
pub none_above : (o : List ℕ) (es : List (List ℕ × Option ℕ)) → T (below_all text_cmp o es) → fmap.find text_cmp o es ≡ None
none_above o [] h = refl
none_above o (e ∷ es) h =
    let p = two_parts (is_lt (text_cmp o e.0)) (below_all text_cmp o es) h in
    ap (λ r. cond (is_eq r) (Some e.1) (fmap.find text_cmp o es)) (less_from (text_cmp o e.0) p.0) ∙ none_above o es p.1

-- an archive's rows have what its slots hold
find_shelf : (a o : List ℕ) (es : List (List ℕ × Option ℕ)) → T (fmap.is_sorted text_cmp es) → fmap.find key_cmp (a, o) (shelf_rows a es) ≡ stamp_in (fmap.find text_cmp o es)
find_shelf a o [] h = refl
find_shelf a o (e ∷ es) h =
    let p = two_parts (below_all text_cmp e.0 es) (fmap.is_sorted text_cmp es) h in
    let rest = find_shelf a o es p.1 in
    elim (e.1) as (λ v. fmap.find key_cmp (a, o) (slot_rows a e.0 v ++ shelf_rows a es) ≡ stamp_in (cond (eq_by_cmp text_cmp o e.0) (Some v) (fmap.find text_cmp o es))) [
      | None ↦ rest ∙ elim (eq_by_cmp text_cmp o e.0) as (λ b. eq_by_cmp text_cmp o e.0 ≡ b → stamp_in (fmap.find text_cmp o es) ≡ stamp_in (cond b (Some None) (fmap.find text_cmp o es))) [
        | true ↦ λ t. ap stamp_in (none_above o es (subst (λ q. T (below_all text_cmp q es)) (sym (same_text o e.0 t)) p.0))
        | false ↦ λ _. refl
      ] refl
      | Some v ↦ ap (λ b. cond b (Some v) (fmap.find key_cmp (a, o) (shelf_rows a es))) (tie a o e.0)
          ∙ elim (eq_by_cmp text_cmp o e.0) as (λ b. cond b (Some v) (fmap.find key_cmp (a, o) (shelf_rows a es)) ≡ stamp_in (cond b (Some (Some v)) (fmap.find text_cmp o es)))
          [ true ↦ refl | false ↦ rest ]
    ]

-- another archive's rows don't
find_other : (a b o : List ℕ) (es : List (List ℕ × Option ℕ)) → eq_by_cmp text_cmp a b ≡ false → fmap.find key_cmp (a, o) (shelf_rows b es) ≡ None
find_other a b o [] h = refl
find_other a b o (e ∷ es) h =
    elim (e.1) as (λ v. fmap.find key_cmp (a, o) (slot_rows b e.0 v ++ shelf_rows b es) ≡ None) [
      | None ↦ find_other a b o es h
      | Some v ↦ ap (λ t. cond t (Some v) (fmap.find key_cmp (a, o) (shelf_rows b es))) (apart a b o e.0 h) ∙ find_other a b o es h
    ]

-- all rows have what the slots hold
pub find_all : (k : Key) (ss : List (List ℕ × Slots)) → IsStrictlySortedBy text_cmp (keys_of ss) → fmap.find key_cmp k (all_rows ss) ≡ stamp_in (slot_of (lookup (is_at (text_cmp k.0)) ss) k.1)
unfolding IsStrictlySortedBy
find_all k [] h = refl
find_all k (s ∷ ss) h =
    let rest = find_all k ss h.1 in
    find_both k (shelf_rows s.0 (fmap.entries s.1)) (all_rows ss)
    ∙ elim (eq_by_cmp text_cmp k.0 s.0) as (λ b. eq_by_cmp text_cmp k.0 s.0 ≡ b → option_or (fmap.find key_cmp k (shelf_rows s.0 (fmap.entries s.1)))
    (fmap.find key_cmp k (all_rows ss)) ≡ stamp_in (slot_of (cond b (Some s.1) (lookup (is_at (text_cmp k.0)) ss)) k.1)) [
      | true ↦ λ t.
          let here : k.0 ≡ s.0 = same_text k.0 s.0 t in
          let none : fmap.find key_cmp k (all_rows ss) ≡ None = rest
          ∙ ap (λ o. stamp_in (slot_of o k.1)) (none_after k.0 ss (subst (λ a. AllByRecursion (λ b. text_cmp a b ≡ Less) (keys_of ss)) (sym here) h.0)) in
          ap (option_or (fmap.find key_cmp k (shelf_rows s.0 (fmap.entries s.1)))) none
          ∙ (or_none (fmap.find key_cmp k (shelf_rows s.0 (fmap.entries s.1)))
          ∙ (ap (λ a. fmap.find key_cmp (a, k.1) (shelf_rows s.0 (fmap.entries s.1))) here
          ∙ (find_shelf s.0 k.1 (fmap.entries s.1) (fmap.entries_sorted s.1) ∙ ap stamp_in (sym (fmap.get-entries s.1 k.1)))))
      | false ↦ λ t. ap (λ o. option_or o (fmap.find key_cmp k (all_rows ss))) (find_other k.0 s.0 k.1 (fmap.entries s.1) t) ∙ rest
    ] refl

pub get-stamps_in : (m : Shelves) → tree.IsOrdered text_cmp m → (k : Key) → fmap.get (stamps_in m) k ≡ stamp_in (slot m k)
get-stamps_in m h k = fmap.get-from_entries key_cmp_total (all_rows m.entries) k ∙ find_all k m.entries h

-- slots that hold the same are the same entries
pub same_stamps : (m n : Shelves) → tree.IsOrdered text_cmp m → tree.IsOrdered text_cmp n → ((k : Key) → stamp_in (slot n k) ≡ stamp_in (slot m k)) → stamps_in n ≡ stamps_in m
same_stamps m n h g same = fmap.same_map key_cmp_total key_cmp_exact _ _ (λ k. get-stamps_in n g k ∙ (same k ∙ sym (get-stamps_in m h k)))

-- ---- slots made and filled

-- an archive's slots in its place, which hold the same
pub same_shelf : (m n : Shelves) (a : List ℕ) (w : Slots) → ((q : List ℕ) → tree.get text_cmp n q ≡ cond (eq_by_cmp text_cmp a q) (Some w) (tree.get text_cmp m q))
    → ((o : List ℕ) → stamp_in (fmap.get w o) ≡ stamp_in (slot_of (tree.get text_cmp m a) o)) → (k : Key) → stamp_in (slot n k) ≡ stamp_in (slot m k)
same_shelf m n a w put same k =
    ap (λ s. stamp_in (slot_of s k.1)) (put k.0)
    ∙ elim (eq_by_cmp text_cmp a k.0) as (λ b. eq_by_cmp text_cmp a k.0 ≡ b → stamp_in (slot_of (cond b (Some w) (tree.get text_cmp m k.0)) k.1) ≡ stamp_in (slot m k)) [
      | true ↦ λ t. same k.1 ∙ ap (λ b. stamp_in (slot_of (tree.get text_cmp m b) k.1)) (same_text a k.0 t)
      | false ↦ λ _. refl
    ] refl

-- an archive's slots in its place, where those that were there stay
pub slots_stay : (m n : Shelves) (a : List ℕ) (w : Slots) → ((q : List ℕ) → tree.get text_cmp n q ≡ cond (eq_by_cmp text_cmp a q) (Some w) (tree.get text_cmp m q))
    → ((o : List ℕ) → IsSome (slot_of (tree.get text_cmp m a) o) → IsSome (fmap.get w o)) → (k : Key) → IsSome (slot m k) → IsSome (slot n k)
slots_stay m n a w put stay k had =
    subst (λ s. IsSome (slot_of s k.1)) (sym (put k.0))
    (elim (eq_by_cmp text_cmp a k.0) as (λ b. eq_by_cmp text_cmp a k.0 ≡ b → IsSome (slot_of (cond b (Some w) (tree.get text_cmp m k.0)) k.1)) [
      | true ↦ λ t. stay k.1 (subst (λ b. IsSome (slot_of (tree.get text_cmp m b) k.1)) (sym (same_text a k.0 t)) had)
      | false ↦ λ _. had
    ] refl)

-- an archive's slots in its place with one more filled
pub one_filled : (m n : Shelves) (a o : List ℕ) (s : Slots) (v : ℕ)
    → ((q : List ℕ) → tree.get text_cmp n q ≡ cond (eq_by_cmp text_cmp a q) (Some (fmap.insert s o (Some v))) (tree.get text_cmp m q)) → tree.get text_cmp m a ≡ Some s → (k : Key)
    → slot n k ≡ cond (eq_by_cmp key_cmp k (a, o)) (Some (Some v)) (slot m k)
one_filled m n a o s v put was k =
    ap (λ t. slot_of t k.1) (put k.0)
    ∙ elim (eq_by_cmp text_cmp a k.0) as (λ b. eq_by_cmp text_cmp a k.0 ≡ b → slot_of (cond b (Some (fmap.insert s o (Some v))) (tree.get text_cmp m k.0)) k.1 ≡ cond
    (eq_by_cmp key_cmp k (a, o)) (Some (Some v)) (slot m k)) [
      | true ↦ λ t.
          let here : a ≡ k.0 = same_text a k.0 t in
          fmap.get-insert nat_list_cmp_total s o (Some v) k.1
          ∙ ((λ i. cond (sym (tie a k.1 o) i) (Some (Some v)) (slot_of (sym was i) k.1))
          ∙ ap (λ b. cond (eq_by_cmp key_cmp (b, k.1) (a, o)) (Some (Some v)) (slot m (b, k.1))) here)
      | false ↦ λ t. sym (ap (λ b. cond b (Some (Some v)) (slot m k)) (apart k.0 a k.1 o ((eq_by_cmp_equiv nat_list_cmp_total).symm k.0 a ∙ t)))
    ] refl

-- ---- the slots of one archive

pub get-slots : (es : List (List ℕ × Option ℕ)) (o : List ℕ) → fmap.get (fmap.from_entries {R = text_cmp} es) o ≡ lookup (is_at (text_cmp o)) es
get-slots es o = fmap.get-from_entries nat_list_cmp_total es o ∙ sym (lookup-find text_cmp o es)

-- slots in order are those of their map
pub slots_made : (es : List (List ℕ × Option ℕ)) → IsStrictlySortedBy text_cmp (keys_of es) → fmap.entries (fmap.from_entries {R = text_cmp} es) ≡ es
slots_made es h =
    let sorted = from_keys text_cmp es h in
    ap (λ (s : Slots). fmap.entries s) (fmap.same_map nat_list_cmp_total text_exact (fmap.from_entries es)
    (fmap.from_sorted es) (λ o. fmap.get-from_entries nat_list_cmp_total es o
    ∙ sym (fmap.get-from_sorted text_cmp es o sorted)))
    ∙ fmap.entries-from_sorted text_cmp es sorted

-- a slot with another value
pub slot_put : (es fs : List (List ℕ × Option ℕ)) (o : List ℕ) (w : Option ℕ) (now : Slots) → fmap.from_entries es ≡ now
    → ((q : List ℕ) → lookup (is_at (text_cmp q)) fs ≡ cond (is_at (text_cmp o) q) (Some w) (lookup (is_at (text_cmp q)) es)) → fmap.from_entries fs ≡ fmap.insert now o w
slot_put es fs o w now view put =
    fmap.same_map nat_list_cmp_total text_exact (fmap.from_entries fs) (fmap.insert (fmap.from_entries es) o w) (λ q.
    get-slots fs q ∙ (put q ∙ ((λ i. cond ((eq_by_cmp_equiv nat_list_cmp_total).symm o q i) (Some w) (sym (get-slots es q) i))
    ∙ sym (fmap.get-insert nat_list_cmp_total (fmap.from_entries es) o w q))))
    ∙ ap (λ (s : Slots). fmap.insert s o w) view

pub not_some : {A : Type 0} (o : Option A) → o ≡ None → IsSome o → ⊥
not_some o e h = true≢false (sym h ∙ ap is_some e)

-- an empty slot where there was none holds nothing more
pub slot_same : (x : Slots) (a : List ℕ) → is_some (fmap.get x a) ≡ false → (o : List ℕ) → stamp_in (fmap.get (fmap.insert x a None) o) ≡ stamp_in (fmap.get x o)
slot_same x a none o =
    ap stamp_in (fmap.get-insert nat_list_cmp_total x a None o)
    ∙ elim (eq_by_cmp text_cmp o a) as (λ b. eq_by_cmp text_cmp o a ≡ b → stamp_in (cond b (Some None) (fmap.get x o)) ≡ stamp_in (fmap.get x o)) [
      | true ↦ λ t. sym (ap stamp_in (ap (fmap.get x) (same_text o a t) ∙ none_there (fmap.get x a) none))
      | false ↦ λ _. refl
    ] refl

pub slot_stay : (x : Slots) (a : List ℕ) (v : Option ℕ) (o : List ℕ) → IsSome (fmap.get x o) → IsSome (fmap.get (fmap.insert x a v) o)
slot_stay x a v o h =
    subst IsSome (sym (fmap.get-insert nat_list_cmp_total x a v o))
    (elim (eq_by_cmp text_cmp o a) as (λ b. IsSome (cond b (Some v) (fmap.get x o))) [ true ↦ refl | false ↦ h ])

pub slot_made : (x : Slots) (a : List ℕ) (v : Option ℕ) → IsSome (fmap.get (fmap.insert x a v) a)
slot_made x a v =
    subst IsSome (sym (fmap.get-insert nat_list_cmp_total x a v a ∙ ap (λ r. cond (is_eq r) (Some v) (fmap.get x a)) (tied_itself nat_list_cmp_total a))) refl

-- ---- a shelf made

pub new_shelf_same : (m n : Shelves) (a : List ℕ) (w : Slots) → w ≡ fmap.empty → is_some (tree.get text_cmp m a) ≡ false
    → ((q : List ℕ) → tree.get text_cmp n q ≡ cond (eq_by_cmp text_cmp a q) (Some w) (tree.get text_cmp m q)) → (k : Key) → stamp_in (slot n k) ≡ stamp_in (slot m k)
new_shelf_same m n a w is none put =
    same_shelf m n a w put (λ o. ap stamp_in (ap (λ (s : Slots). fmap.get s o) is ∙ fmap.get-empty text_cmp o) ∙ sym (ap (λ s. stamp_in (slot_of s o)) (no_shelf (tree.get text_cmp m a) none)))
  where
    no_shelf : (s : Option Slots) → is_some s ≡ false → s ≡ None
    no_shelf None h = refl
    no_shelf (Some s) h = absurd (true≢false h)

pub new_shelf_stay : (m n : Shelves) (a : List ℕ) (w : Slots) → is_some (tree.get text_cmp m a) ≡ false
    → ((q : List ℕ) → tree.get text_cmp n q ≡ cond (eq_by_cmp text_cmp a q) (Some w) (tree.get text_cmp m q)) → (k : Key) → IsSome (slot m k) → IsSome (slot n k)
new_shelf_stay m n a w none put = slots_stay m n a w put (λ o had. absurd (no_slot (tree.get text_cmp m a) none o had))
  where
    no_slot : (s : Option Slots) → is_some s ≡ false → (o : List ℕ) → IsSome (slot_of s o) → ⊥
    no_slot None h o had = true≢false (sym had)
    no_slot (Some s) h o had = true≢false h

pub slot_stays_filled : (m n : Shelves) (q : Key) (v : ℕ) → ((k : Key) → slot n k ≡ cond (eq_by_cmp key_cmp k q) (Some (Some v)) (slot m k)) → (k : Key) → IsSome (slot m k) → IsSome (slot n k)
slot_stays_filled m n q v after k had = subst IsSome (sym (after k)) (elim (eq_by_cmp key_cmp k q) as (λ b. IsSome (cond b (Some (Some v)) (slot m k))) [ true ↦ refl | false ↦ had ])

-- ---- a slot that is taken out

-- the slots where one was taken out
pub slot_removed : (es fs : List (List ℕ × Option ℕ)) (o : List ℕ) (now : Slots) → fmap.from_entries es ≡ now
    → ((q : List ℕ) → lookup (is_at (text_cmp q)) fs ≡ cond (is_at (text_cmp o) q) None (lookup (is_at (text_cmp q)) es)) → (q : List ℕ)
    → fmap.get (fmap.from_entries {R = text_cmp} fs) q ≡ cond (eq_by_cmp text_cmp o q) None (fmap.get now q)
slot_removed es fs o now view put q = get-slots fs q ∙ (put q ∙ ap (λ (v : Option (Option ℕ)). cond (eq_by_cmp text_cmp o q) None v) (sym (get-slots es q) ∙ ap (λ (s : Slots). fmap.get s q) view))

module _ (x y : Slots) (a : List ℕ) (put : (q : List ℕ) → fmap.get y q ≡ cond (eq_by_cmp text_cmp a q) None (fmap.get x q)) where
  pub emptied_same : fmap.get x a ≡ Some None → (o : List ℕ) → stamp_in (fmap.get y o) ≡ stamp_in (fmap.get x o)
  emptied_same empty o =
      ap stamp_in (put o)
      ∙ elim (eq_by_cmp text_cmp a o) as (λ b. eq_by_cmp text_cmp a o ≡ b → stamp_in (cond b None (fmap.get x o)) ≡ stamp_in (fmap.get x o)) [
        | true ↦ λ t. sym (ap stamp_in (ap (fmap.get x) (sym (same_text a o t)) ∙ empty))
        | false ↦ λ _. refl
      ] refl

  pub emptied_others : (o : List ℕ) → ¬ (fmap.get x o ≡ Some None) → ¬ (fmap.get y o ≡ Some None)
  emptied_others o was is =
      elim (eq_by_cmp text_cmp a o) as (λ b. cond b None (fmap.get x o) ≡ Some None → ⊥) [
        | true ↦ λ same. none-some None same
        | false ↦ was
      ] (sym (put o) ∙ is)

  pub emptied_gone : ¬ (fmap.get y a ≡ Some None)
  emptied_gone is =
      none-some None (sym (put a ∙ ap (λ r. cond (is_eq r) None (fmap.get x a)) (tied_itself nat_list_cmp_total a)) ∙ is)

-- an archive's slots in its place, of which no more are empty
pub no_more_empty : (m n : Shelves) (a : List ℕ) (w : Slots) → ((q : List ℕ) → tree.get text_cmp n q ≡ cond (eq_by_cmp text_cmp a q) (Some w) (tree.get text_cmp m q))
    → ((o : List ℕ) → ¬ (slot_of (tree.get text_cmp m a) o ≡ Some None) → ¬ (fmap.get w o ≡ Some None)) → (k : Key) → ¬ (slot m k ≡ Some None) → ¬ (slot n k ≡ Some None)
no_more_empty m n a w put others k was =
    subst (λ s. ¬ (slot_of s k.1 ≡ Some None)) (sym (put k.0))
    (elim (eq_by_cmp text_cmp a k.0) as (λ b. eq_by_cmp text_cmp a k.0 ≡ b → ¬ (slot_of (cond b (Some w) (tree.get text_cmp m k.0)) k.1 ≡ Some None)) [
      | true ↦ λ t. others k.1 (subst (λ b. ¬ (slot_of (tree.get text_cmp m b) k.1 ≡ Some None)) (sym (same_text a k.0 t)) was)
      | false ↦ λ _. was
    ] refl)
