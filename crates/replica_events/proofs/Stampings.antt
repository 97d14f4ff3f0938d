-- Any merges made a state with stamps.
use Rattle.std.proofs.Common.{◌≡◌, ℕ, ◌+◌, ◌⊎◌, Bool, true, false, cond, List, [], ◌∷◌, ◌++◌, Option, Some, None, refl, sym, ap, subst, ◌∙◌, append_assoc, append-nil, inl, inr}
use Rattle.std.specs.Prelude.{is_some}
use Rattle.std.specs.Coded.{Coded, coded_option}
use base.Stored.{Gv, gnil, gnum, gcons}
use Rattle.std.specs.List.{list_any}
use Rattle.std.specs.Ordering.{eq_by_cmp}
use Rattle.std.specs.FinMap as map
use Rattle.std.proofs.lemmas.Bool.{false≢true, true≢false, cases_Bool, cases_eq, or_cases, or_parts}
use Rattle.memento_index.specs.declared.merge.Merge.{Merge}
use Rattle.memento_index.specs.Merges.{adds_of}
use Rattle.harvest_lattice.specs.Lattice.{Key, key_cmp, Kept, join, join_kept, coded_kept}
use Rattle.harvest_lattice.specs.Knowledge.{lat}
use Rattle.harvest_lattice.proofs.EntryOrder.{key_cmp_total, get-join, none_joined}
use Rattle.harvest_lattice.proofs.Knowledge.{same_key}
use Rattle.replica_exchange.specs.Stamps.{Stamps, StampedState, IsStamped, IsRestamped, IsAbsorbed}
use Rattle.replica_exchange.proofs.StampLemmas.{absorbed_is_stamped, stamped_at_first}

-- ---- what is coded is the same or not

abbrev SameOrNot : {A : Type 0} → A → A → Type 0
SameOrNot x y = (x ≡ y) ⊎ ¬ (x ≡ y)

trees : (x y : Gv) → SameOrNot x y
trees gnil gnil = inl refl
trees gnil (gnum n) = inr (λ is. cc)
trees gnil (gcons a b) = inr (λ is. cc)
trees (gnum n) gnil = inr (λ is. cc)
trees (gnum n) (gnum m) = numbers (cases_eq n m)
  where
    numbers : (n ≡ m) ⊎ ¬ (n ≡ m) → SameOrNot (gnum n) (gnum m)
    numbers (inl is) = inl (ap gnum is)
    numbers (inr other) = inr (λ is. other (cc))
trees (gnum n) (gcons a b) = inr (λ is. cc)
trees (gcons a b) gnil = inr (λ is. cc)
trees (gcons a b) (gnum n) = inr (λ is. cc)
trees (gcons a b) (gcons c d) = both (trees a c) (trees b d)
  where
    both : SameOrNot a c → SameOrNot b d → SameOrNot (gcons a b) (gcons c d)
    both (inl left) (inl right) = inl (λ i. gcons (left i) (right i))
    both (inl left) (inr right) = inr (λ is. right (cc))
    both (inr left) right = inr (λ is. left (cc))

coded : {A : Type 0} → Coded A → (x y : A) → SameOrNot x y
coded c x y = by_code (trees (c.code x) (c.code y))
  where
    by_code : SameOrNot (c.code x) (c.code y) → SameOrNot x y
    by_code (inl is) = inl (c.inj x y is)
    by_code (inr other) = inr (λ is. other (ap c.code is))

-- ---- stamps

-- the key is one of these
abbrev is_in : List Key → Key → Bool
is_in keys k = list_any (eq_by_cmp key_cmp k) keys

module _ (s : StampedState) (m : Merge) where
  -- once the merge is absorbed, with these stamps
  abbrev next : Stamps → StampedState
  next stamps = record { entries = join s.entries (lat (adds_of m)); stamps = stamps; number = s.number + 1; incarnation = s.incarnation }

  -- the merge leaves the key's entry
  abbrev Leaves : Key → Type 0
  Leaves k = map.get (join s.entries (lat (adds_of m))) k ≡ map.get s.entries k

  -- the stamps are right at these keys, and as they were at others
  record IsRestampedAt (keys : List Key) (stamps : Stamps) : Type 0 where
    pub within : (k : Key) → is_in keys k ≡ true → IsRestamped s (next stamps) k
    pub beyond : (k : Key) → is_in keys k ≡ false → map.get stamps k ≡ map.get s.stamps k

  left : (keys : List Key) (stamps : Stamps) (key : Key) → IsRestampedAt keys stamps → Leaves key → IsRestampedAt (key ∷ keys) stamps
  left keys stamps key right stays = record {
    within = λ k at. among k (cases_Bool (is_in keys k)) (or_cases (eq_by_cmp key_cmp k key) (is_in keys k) at);
    beyond = λ k at. right.beyond k (or_parts (eq_by_cmp key_cmp k key) (is_in keys k) at).1;
  }
    where
      among : (k : Key) → (is_in keys k ≡ true) ⊎ (is_in keys k ≡ false) → (eq_by_cmp key_cmp k key ≡ true) ⊎ (is_in keys k ≡ true) → IsRestamped s (next stamps) k
      among k (inl is_one) either = right.within k is_one
      among k (inr is_none) (inl same) = inl (subst Leaves (sym (same_key k key same)) stays, right.beyond k is_none)
      among k (inr is_none) (inr is_one) = absurd (false≢true (sym is_none ∙ is_one))

  changed : (keys : List Key) (stamps : Stamps) (key : Key) → IsRestampedAt keys stamps → ¬ Leaves key → IsRestampedAt (key ∷ keys) (map.insert stamps key (s.number + 1))
  changed keys stamps key right changes = record {
    within = λ k at. among k (cases_Bool (eq_by_cmp key_cmp k key)) (or_cases (eq_by_cmp key_cmp k key) (is_in keys k) at);
    beyond = λ k at. let is_none = or_parts (eq_by_cmp key_cmp k key) (is_in keys k) at in stays k is_none.0 ∙ right.beyond k is_none.1;
  }
    where
      new : Stamps
      new = map.insert stamps key (s.number + 1)

      got : (k : Key) → map.get new k ≡ cond (eq_by_cmp key_cmp k key) (Some (s.number + 1)) (map.get stamps k)
      got k = map.get-insert key_cmp_total stamps key (s.number + 1) k

      stays : (k : Key) → eq_by_cmp key_cmp k key ≡ false → map.get new k ≡ map.get stamps k
      stays k is_none = got k ∙ ap (λ b. cond b (Some (s.number + 1)) (map.get stamps k)) is_none

      kept : (k : Key) → eq_by_cmp key_cmp k key ≡ false → IsRestamped s (next stamps) k → IsRestamped s (next new) k
      kept k is_none (inl (leaves, stamp)) = inl (leaves, stays k is_none ∙ stamp)
      kept k is_none (inr (differs, stamp)) = inr (differs, stays k is_none ∙ stamp)

      among : (k : Key) → (eq_by_cmp key_cmp k key ≡ true) ⊎ (eq_by_cmp key_cmp k key ≡ false) → (eq_by_cmp key_cmp k key ≡ true) ⊎ (is_in keys k ≡ true) → IsRestamped s (next new) k
      among k (inl same) either = inr (
        λ leaves. changes (subst Leaves (same_key k key same) leaves),
        got k ∙ ap (λ b. cond b (Some (s.number + 1)) (map.get stamps k)) same,
      )
      among k (inr is_none) (inl same) = absurd (false≢true (sym is_none ∙ same))
      among k (inr is_none) (inr is_one) = kept k is_none (right.within k is_one)

  restamps : (keys : List Key) → (stamps : Stamps) × IsRestampedAt keys stamps
  restamps [] = (s.stamps, record { within = λ k at. absurd (false≢true at); beyond = λ k at. refl })
  restamps (key ∷ keys) =
      let rest = restamps keys in
      at rest.0 rest.1 (coded (coded_option coded_kept) (map.get (join s.entries (lat (adds_of m))) key) (map.get s.entries key))
    where
      at : (stamps : Stamps) → IsRestampedAt keys stamps → Leaves key ⊎ ¬ Leaves key → (more : Stamps) × IsRestampedAt (key ∷ keys) more
      at stamps right (inl stays) = (stamps, left keys stamps key right stays)
      at stamps right (inr changes) = (map.insert stamps key (s.number + 1), changed keys stamps key right changes)

  no_entry : (k : Key) → is_some (map.get (join s.entries (lat (adds_of m))) k) ≡ false → Leaves k
  no_entry k is = none_here (map.get (join s.entries (lat (adds_of m))) k) refl is
    where
      none_here : (o : Option Kept) → map.get (join s.entries (lat (adds_of m))) k ≡ o → is_some o ≡ false → Leaves k
      none_here None same is =
          same ∙ sym (none_joined join_kept (map.get s.entries k) (map.get (lat (adds_of m)) k) (sym (get-join s.entries (lat (adds_of m)) k) ∙ same))
      none_here (Some e) same is = absurd (true≢false is)

  absorbs : (t : StampedState) × IsAbsorbed s m t
  absorbs =
      let all : List Key = map.keys (join s.entries (lat (adds_of m))) in
      let made = restamps all in (
        next made.0,
        record { entries = refl; stamps = λ k. at all made.0 made.1 k (cases_Bool (is_in all k)) (map.contains_key-keys (join s.entries (lat (adds_of m))) k); number = refl; incarnation = refl },
      )
    where
      at : (all : List Key) (stamps : Stamps) → IsRestampedAt all stamps → (k : Key) → (is_in all k ≡ true) ⊎ (is_in all k ≡ false)
          → is_some (map.get (join s.entries (lat (adds_of m))) k) ≡ is_in all k → IsRestamped s (next stamps) k
      at all stamps right k (inl is_one) same = right.within k is_one
      at all stamps right k (inr is_none) same = inl (no_entry k (same ∙ is_none), right.beyond k is_none)

-- these merges made it, in this incarnation
abbrev pub Made : List Merge → ℕ → Type 0
Made merges incarnation = (s : StampedState) × IsStamped merges s × (s.incarnation ≡ incarnation)

made_on : (done rest : List Merge) (incarnation : ℕ) (s : StampedState) → IsStamped done s → s.incarnation ≡ incarnation → Made (done ++ rest) incarnation
made_on done [] incarnation s is own = (s, subst (λ (l : List Merge). IsStamped l s) (sym (append-nil done)) is, own)
made_on done (m ∷ rest) incarnation s is own =
    let t = absorbs s m in
    subst (λ (l : List Merge). Made l incarnation) (append_assoc done (m ∷ []) rest)
    (made_on (done ++ m ∷ []) rest incarnation t.0 (absorbed_is_stamped done m s t.0 is t.1) (t.1.incarnation ∙ own))

pub merges_stamped : (merges : List Merge) (incarnation : ℕ) → Made merges incarnation
merges_stamped merges incarnation = made_on [] merges incarnation _ (stamped_at_first incarnation) refl
