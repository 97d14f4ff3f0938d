-- The lists of an index.
use Rattle.std.proofs.Common.{◌≡◌, ℕ, ◌+◌, ◌≤◌, true, false, ◌||◌, cond, length, List, [], ◌∷◌, Option, Some, None}
use Rattle.std.proofs.Common.{is_some, IfSome, ◌⊎◌, inl, inr, refl, sym, ap, subst, ◌∙◌, arith}
use Rattle.std.specs.Map.{lookup, keys_of}
use Rattle.std.specs.Set.{is_member}
use Rattle.std.specs.List.Sorted.{IsStrictlySortedBy}
use Rattle.std.specs.Ordering.{eq_by_cmp, is_eq}
use Rattle.std.specs.Cmp.{eq_by_cmp_equiv, tied_itself}
use Rattle.std.specs.Cmp.Lexicographic.{nat_list_cmp_total}
use Rattle.std.specs.BTreeMap as tree
use Rattle.std.specs.BTreeMap.{is_at}
use Rattle.std.specs.FinMap as fmap
use Rattle.std.proofs.lemmas.Bool.{true≢false}
use Rattle.memento_time.specs.Mementos.{text_cmp, memento_cmp}
use Rattle.memento_time.specs.declared.mementos.Memento.{Memento}
use Rattle.memento_time.proofs.MementoLemmas.{memento_cmp_total, memento_cmp_exact}
use Rattle.memento_sets.specs.Sets as set
use Rattle.memento_sets.specs.MementoSets.{Mementos}
use Rattle.memento_sets.proofs.Sets.{contains-from_list}
use Rattle.harvest_lattice.specs.Lattice.{Key, key_cmp, Kept, Entries, join}
use Rattle.harvest_lattice.specs.Knowledge.{shown_of}
use Rattle.harvest_lattice.proofs.Entries.{same_mementos}
use Rattle.harvest_lattice.proofs.ShelfLemmas.{same_text, none_after}
use Rattle.memento_index.specs.declared.counted.Counted.{Counted}
use Rattle.memento_index.specs.declared.counted.Step.{Step}
use Rattle.memento_index.specs.declared.counted.Steps.{Steps}
use Rattle.memento_index.specs.declared.counted.Steps.TheVariants.{All, Each}
use Rattle.memento_index.specs.Counts.{IsTally, count_of, beginnings, mementos_of, IsRecounted}
use Rattle.memento_index.specs.Showing.{showing, showing_by}
use Rattle.memento_index.specs.Tallies.{Tallied}
use Rattle.memento_index.specs.Lists.{Lists, StepLists, IsListed, tally_in, tally_of, steps_in, steps_or_none, steps_of}
use Rattle.memento_index.specs.Lists.{Grows, FitsList, FitLists, CanTake, HasRoom, HaveRoom, CanCount, IsCounted}
use Rattle.memento_index.specs.Lists.{AreGathered}
use Rattle.memento_index.proofs.Showing.{join_shows, before-le, showing-le, shown_counts, not_shown_counts}
use Rattle.memento_index.proofs.Tallies.{beginnings-le}
use Rattle.memento_index.proofs.Listed.{tally_lists}

-- a set is that of its own members in order
pub from_items : (s : Mementos) → set.from_list {R = memento_cmp} (set.items s) ≡ s
from_items s = same_mementos _ _ (λ m. contains-from_list memento_cmp_total memento_cmp_exact (set.items s) m ∙ sym (fmap.contains_key-keys s m))

-- ---- lists that grow

pub grows_same : (a : Option Tallied) → Grows a a
grows_same None = refl
grows_same (Some t) = (refl, omega arith)

pub grows_on : (a b c : Option Tallied) → Grows a b → Grows b c → Grows a c
grows_on None None c p q = q
grows_on None (Some u) None p q = absurd q
grows_on None (Some u) (Some v) p q = q.0 ∙ p
grows_on (Some t) None c p q = absurd p
grows_on (Some t) (Some u) None p q = absurd q
grows_on (Some t) (Some u) (Some v) p q = (q.0 ∙ p.0, let r = p.1 in let s = q.1 in omega arith)

pub grown_same : (a b : Option Tallied) → Grows a b → tally_in b ≡ tally_in a
grown_same None b p = p
grown_same (Some t) None p = absurd p
grown_same (Some t) (Some u) p = p.0

pub grown_room : (keys : ℕ) (a b : Option Tallied) (spare wide : ℕ) (steps : Steps) → Grows a b → spare ≤ wide
    → HasRoom keys a spare steps → HasRoom keys b wide steps
grown_room keys None b spare wide steps p le h = absurd h
grown_room keys (Some t) None spare wide steps p le h = absurd p
grown_room keys (Some t) (Some u) spare wide steps p le h = (wider steps h.0, h.1)
  where
    wider : (s : Steps) → CanTake t spare s → CanTake u wide s
    wider (All made) just = p.0 ∙ just
    wider (Each each) fits =
        let same : length u.entries ≡ length t.entries = ap (λ es. length es) p.0 in
        let more = p.1 in
        let here = fits.0 in
        let there = fits.1 in
        (omega arith, omega arith)

pub fewer_keys : (keys : ℕ) (a : Option Tallied) (spare : ℕ) (steps : Steps) → HasRoom keys a spare steps → HasRoom 0 a spare steps
fewer_keys keys None spare steps h = absurd h
fewer_keys keys (Some t) spare steps h = let few = h.1 in (h.0, omega arith)

-- a list that is replaced still has just what goes
pub still_fit : (m n : Lists) (all : StepLists) → ((o : List ℕ) → Grows (tree.get text_cmp m o) (tree.get text_cmp n o)) → FitLists m all → FitLists n all
still_fit m n all grow first o = subst (λ (es : List Counted). IfSome (tree.get text_cmp all o) (FitsList es))
    (sym (grown_same (tree.get text_cmp m o) (tree.get text_cmp n o) (grow o))) (first o)

pub fewer_keys_all : (keys : ℕ) (all : StepLists) (lists : Lists) (spare : ℕ) → HaveRoom keys all lists spare → HaveRoom 0 all lists spare
fewer_keys_all keys all lists spare h o = by (tree.get text_cmp all o) (h o)
  where
    by : (s : Option Steps) → IfSome s (HasRoom keys (tree.get text_cmp lists o) spare) → IfSome s (HasRoom 0 (tree.get text_cmp lists o) spare)
    by None h = tt
    by (Some steps) h = fewer_keys keys (tree.get text_cmp lists o) spare steps h

pub none_there : {A : Type 0} (t : Option A) → is_some t ≡ false → t ≡ None
none_there None h = refl
none_there (Some t) h = absurd (true≢false h)

-- one put where none was
pub one_grows : (m n : Lists) (a : List ℕ) (w : Tallied)
    → ((q : List ℕ) → tree.get text_cmp n q ≡ cond (is_at (text_cmp a) q) (Some w) (tree.get text_cmp m q))
    → Grows (tree.get text_cmp m a) (Some w) → (o : List ℕ) → Grows (tree.get text_cmp m o) (tree.get text_cmp n o)
one_grows m n a w put grow o =
    subst (Grows (tree.get text_cmp m o)) (sym (put o))
    (elim (is_at (text_cmp a) o) as (λ b. is_at (text_cmp a) o ≡ b → Grows (tree.get text_cmp m o) (cond b (Some w) (tree.get text_cmp m o))) [
      | true ↦ λ t. subst (λ p. Grows (tree.get text_cmp m p) (Some w)) (same_text a o t) grow
      | false ↦ λ _. grows_same (tree.get text_cmp m o)
    ] refl)

-- one put where just that was
pub one_stays : (m n : Lists) (a : List ℕ) (w : Tallied)
    → ((q : List ℕ) → tree.get text_cmp n q ≡ cond (is_at (text_cmp a) q) (Some w) (tree.get text_cmp m q))
    → tree.get text_cmp m a ≡ Some w → (o : List ℕ) → tree.get text_cmp n o ≡ tree.get text_cmp m o
one_stays m n a w put there o =
    put o ∙ elim (is_at (text_cmp a) o) as (λ b. is_at (text_cmp a) o ≡ b → cond b (Some w) (tree.get text_cmp m o) ≡ tree.get text_cmp m o) [
      | true ↦ λ t. sym there ∙ ap (λ p. tree.get text_cmp m p) (same_text a o t)
      | false ↦ λ _. refl
    ] refl

-- ---- a walk over the steps of each original

-- an original's steps are still to come, or it has its room
abbrev pub HasRoomOr : ℕ → StepLists → List (List ℕ × Steps) → Lists → ℕ → List ℕ → Type 0
HasRoomOr keys all left lists spare o = (lookup (is_at (text_cmp o)) left ≡ tree.get text_cmp all o) ⊎ IfSome
    (tree.get text_cmp all o) (HasRoom keys (tree.get text_cmp lists o) spare)

pub room_stays : (keys : ℕ) (s : Option Steps) (a b : Option Tallied) (spare wide : ℕ) → Grows a b → spare ≤ wide
    → IfSome s (HasRoom keys a spare) → IfSome s (HasRoom keys b wide)
room_stays keys None a b spare wide grow le h = tt
room_stays keys (Some steps) a b spare wide grow le h = grown_room keys a b spare wide steps grow le h

pub one_more_room : (keys : ℕ) (all : StepLists) (left new : List (List ℕ × Steps)) (e : List ℕ × Steps)
    (was now : Lists) (spare wide : ℕ) → left ≡ e ∷ new
    → ((o : List ℕ) → Grows (tree.get text_cmp was o) (tree.get text_cmp now o)) → spare ≤ wide → FitLists was all
    → (FitsList (tally_of was e.0) e.1 → HasRoom keys (tree.get text_cmp now e.0) wide e.1) → (o : List ℕ)
    → HasRoomOr keys all left was spare o → HasRoomOr keys all new now wide o
one_more_room keys all left new e was now spare wide is grow le first made o (inr had) =
    inr (room_stays keys (tree.get text_cmp all o) (tree.get text_cmp was o) (tree.get text_cmp now o) spare wide
    (grow o) le had)
one_more_room keys all left new e was now spare wide is grow le first made o (inl to_come) =
    elim (is_at (text_cmp o) e.0) as (λ b. is_at (text_cmp o) e.0 ≡ b
    → cond b (Some e.1) (lookup (is_at (text_cmp o)) new) ≡ tree.get text_cmp all o
    → HasRoomOr keys all new now wide o) [
      | true ↦ λ t its.
          let same : o ≡ e.0 = same_text o e.0 t in
          let comes : FitsList (tally_of was o) e.1 = subst (λ (s : Option Steps). IfSome s (FitsList (tally_of was o))) (sym its) (first o) in
          let room : HasRoom keys (tree.get text_cmp now e.0) wide e.1 = made (subst (λ p. FitsList (tally_of was p) e.1) same comes) in
          inr (subst (λ (s : Option Steps). IfSome s (HasRoom keys (tree.get text_cmp now o) wide)) its
          (subst (λ p. HasRoom keys (tree.get text_cmp now p) wide e.1) (sym same) room))
      | false ↦ λ _ rest. inl rest
    ] refl (ap (lookup (is_at (text_cmp o))) (sym is) ∙ to_come)

pub all_roomy : (keys : ℕ) (all : StepLists) (left : List (List ℕ × Steps)) (lists : Lists) (spare : ℕ) → left ≡ []
    → ((o : List ℕ) → HasRoomOr keys all left lists spare o) → HaveRoom keys all lists spare
all_roomy keys all left lists spare is has o =
    elim (has o) [
      | inr room ↦ room
      | inl to_come ↦ subst (λ (s : Option Steps). IfSome s (HasRoom keys (tree.get text_cmp lists o) spare))
          (ap (lookup (is_at (text_cmp o))) (sym is) ∙ to_come) tt
    ]

-- an original without steps isn't among those to come
pub none_to_come : (o : List ℕ) (left new : List (List ℕ × Steps)) (e : List ℕ × Steps) → left ≡ e ∷ new
    → lookup (is_at (text_cmp o)) left ≡ None → (eq_by_cmp text_cmp e.0 o ≡ false)
    × (lookup (is_at (text_cmp o)) new ≡ None)
none_to_come o left new e is none =
    elim (is_at (text_cmp o) e.0) as (λ b. is_at (text_cmp o) e.0 ≡ b
    → cond b (Some e.1) (lookup (is_at (text_cmp o)) new) ≡ None → (eq_by_cmp text_cmp e.0 o ≡ false)
    × (lookup (is_at (text_cmp o)) new ≡ None)) [
      | true ↦ λ _ some. absurd (cc)
      | false ↦ λ apart rest. ((eq_by_cmp_equiv nat_list_cmp_total).symm e.0 o ∙ apart, rest)
    ] refl (ap (lookup (is_at (text_cmp o))) (sym is) ∙ none)

-- ---- a walk that drops empty lists

empty_listed : (t : Option Tallied) → (IsListed t → ⊥) → tally_in t ≡ []
empty_listed None h = absurd (h tt)
empty_listed (Some t) h = elim t.entries as (λ es. ((es ≡ [] → ⊥) → ⊥) → es ≡ []) [ [] ↦ λ _. refl | e ∷ es ↦ λ g. absurd (g (λ same. cc)) ] h

-- an empty list that is taken out
pub empty_dropped : (m n : Lists) (a : List ℕ)
    → ((q : List ℕ) → tree.get text_cmp n q ≡ cond (is_at (text_cmp a) q) None (tree.get text_cmp m q))
    → (IsListed (tree.get text_cmp m a) → ⊥) → (o : List ℕ) → (tally_of n o ≡ tally_of m o)
    × (IsListed (tree.get text_cmp m o) → tree.get text_cmp n o ≡ tree.get text_cmp m o)
empty_dropped m n a put empty o =
    elim (is_at (text_cmp a) o) as (λ b. is_at (text_cmp a) o ≡ b → tree.get text_cmp n o
    ≡ cond b None (tree.get text_cmp m o) → (tally_of n o ≡ tally_of m o)
    × (IsListed (tree.get text_cmp m o) → tree.get text_cmp n o ≡ tree.get text_cmp m o)) [
      | true ↦ λ t gone.
          let here : IsListed (tree.get text_cmp m o) → ⊥ = subst (λ p. IsListed (tree.get text_cmp m p) → ⊥) (same_text a o t) empty in
          (ap (λ (s : Option Tallied). tally_in s) gone ∙ sym (empty_listed (tree.get text_cmp m o) here), λ listed. absurd (here listed))
      | false ↦ λ _ same. (ap (λ (s : Option Tallied). tally_in s) same, λ _. same)
    ] refl (put o)

-- an original is still to come, or its list isn't empty
abbrev pub IsListedOr : List (List ℕ) → Lists → List ℕ → Type 0
IsListedOr left lists o = (is_member (eq_by_cmp text_cmp) left o ≡ true) ⊎ IsListed (tree.get text_cmp lists o)

pub one_more_listed : (left new : List (List ℕ)) (a : List ℕ) (was now : Lists) → left ≡ a ∷ new
    → IsListed (tree.get text_cmp now a) → ((o : List ℕ) → IsListed (tree.get text_cmp was o) → tree.get text_cmp now o
    ≡ tree.get text_cmp was o) → (o : List ℕ) → IsListedOr left was o → IsListedOr new now o
one_more_listed left new a was now is gone stay o (inr listed) = inr (subst IsListed (sym (stay o listed)) listed)
one_more_listed left new a was now is gone stay o (inl to_come) =
    elim (is_at (text_cmp o) a) as (λ b. is_at (text_cmp o) a ≡ b → (b || is_member (eq_by_cmp text_cmp) new o) ≡ true → IsListedOr new now o) [
      | true ↦ λ t _. inr (subst (λ p. IsListed (tree.get text_cmp now p)) (sym (same_text o a t)) gone)
      | false ↦ λ _ rest. inl rest
    ] refl (ap (λ ks. is_member (eq_by_cmp text_cmp) ks o) (sym is) ∙ to_come)

pub none_left : (left : List (List ℕ)) (lists : Lists) → left ≡ [] → (o : List ℕ) → IsListedOr left lists o → IsListed (tree.get text_cmp lists o)
none_left left lists is o (inr listed) = listed
none_left left lists is o (inl to_come) = absurd (true≢false (sym to_come ∙ ap (λ ks. is_member (eq_by_cmp text_cmp) ks o) is))

-- ---- a walk that counts

-- an original's steps are still to come and its list is as it was, or they are counted, and an empty list dropped
abbrev pub IsCountedOr : StepLists → List (List ℕ × Steps) → Lists → Lists → List ℕ → Type 0
IsCountedOr all left was now o =
    ((lookup (is_at (text_cmp o)) left ≡ tree.get text_cmp all o)
    × (tree.get text_cmp now o ≡ tree.get text_cmp was o)) ⊎ ((lookup (is_at (text_cmp o)) left ≡ None)
    × IsRecounted (tally_of was o) (steps_of all o) (tally_of now o) × IsListed (tree.get text_cmp now o))

-- the steps that come next are those of their original
pub next_is : (all : StepLists) (left new : List (List ℕ × Steps)) (e : List ℕ × Steps) (was now : Lists)
    → left ≡ e ∷ new → ((o : List ℕ) → IsCountedOr all left was now o) → (tree.get text_cmp all e.0 ≡ Some e.1)
    × (tree.get text_cmp now e.0 ≡ tree.get text_cmp was e.0)
next_is all left new e was now is each =
    let here : lookup (is_at (text_cmp e.0)) left ≡ Some e.1 = ap (lookup (is_at (text_cmp e.0))) is
    ∙ ap (λ b. cond b (Some e.1) (lookup (is_at (text_cmp e.0)) new)) (text_itself e.0) in
    elim (each e.0) [
      | inl to_come ↦ (sym to_come.0 ∙ here, to_come.1)
      | inr done ↦ absurd (not_none e.1 (sym here ∙ done.0))
    ]
  where
    text_itself : (a : List ℕ) → is_at (text_cmp a) a ≡ true
    text_itself a = ap is_eq (tied_itself nat_list_cmp_total a)

    not_none : (s : Steps) → Some s ≡ None → ⊥
    not_none s e = cc

-- so what is asked of each original holds of the next one
pub next_tally : (all : StepLists) (left new : List (List ℕ × Steps)) (e : List ℕ × Steps) (was now : Lists)
    → left ≡ e ∷ new → ((o : List ℕ) → IsCountedOr all left was now o) → ((o : List ℕ) → IsTally (tally_of was o))
    → IsTally (tally_of now e.0)
next_tally all left new e was now is each tally =
    subst (λ (t : Option Tallied). IsTally (tally_in t)) (sym (next_is all left new e was now is each).1) (tally e.0)

pub next_can : (all : StepLists) (left new : List (List ℕ × Steps)) (e : List ℕ × Steps) (was now : Lists)
    → left ≡ e ∷ new → ((o : List ℕ) → IsCountedOr all left was now o)
    → ((o : List ℕ) → CanCount (tally_of was o) (steps_of all o)) → CanCount (tally_of now e.0) (steps_in e.1)
next_can all left new e was now is each can =
    let its = next_is all left new e was now is each in
    subst (λ (t : Option Tallied). CanCount (tally_in t) (steps_in e.1)) (sym its.1)
    (subst (λ (s : Option Steps). CanCount (tally_of was e.0) (steps_or_none s)) its.0 (can e.0))

pub next_room : (all : StepLists) (left new : List (List ℕ × Steps)) (e : List ℕ × Steps) (was now : Lists)
    → left ≡ e ∷ new → ((o : List ℕ) → IsCountedOr all left was now o) → (spare wide : ℕ) → spare ≤ wide
    → HaveRoom 0 all was spare → HasRoom 0 (tree.get text_cmp now e.0) wide e.1
next_room all left new e was now is each spare wide le room =
    let its = next_is all left new e was now is each in
    let here : HasRoom 0 (tree.get text_cmp was e.0) spare e.1 =
    subst (λ (s : Option Steps). IfSome s (HasRoom 0 (tree.get text_cmp was e.0) spare)) its.0 (room e.0) in
    subst (λ (t : Option Tallied). HasRoom 0 t wide e.1) (sym its.1)
    (grown_room 0 (tree.get text_cmp was e.0) (tree.get text_cmp was e.0) spare wide e.1
    (grows_same (tree.get text_cmp was e.0)) le here)

pub one_more_counted : (all : StepLists) (left new : List (List ℕ × Steps)) (e : List ℕ × Steps) (was now next : Lists)
    → left ≡ e ∷ new → IsStrictlySortedBy text_cmp (keys_of left) → ((o : List ℕ) → IsCountedOr all left was now o)
    → IsRecounted (tally_of now e.0) (steps_in e.1) (tally_of next e.0) → IsListed (tree.get text_cmp next e.0)
    → ((o : List ℕ) → eq_by_cmp text_cmp e.0 o ≡ false → tree.get text_cmp next o ≡ tree.get text_cmp now o)
    → (o : List ℕ) → IsCountedOr all new was next o
unfolding IsStrictlySortedBy
one_more_counted all left new e was now next is sorted each recounted listed others o =
    elim (eq_by_cmp text_cmp e.0 o) as (λ b. eq_by_cmp text_cmp e.0 o ≡ b → IsCountedOr all new was next o) [
      | true ↦ λ t. subst (IsCountedOr all new was next) (same_text e.0 o t) (inr (gone, here, listed))
      | false ↦ λ f. other f (each o)
    ] refl
  where
    gone : lookup (is_at (text_cmp e.0)) new ≡ None
    gone = let h : IsStrictlySortedBy text_cmp (keys_of (e ∷ new)) =
        subst (λ (es : List (List ℕ × Steps)). IsStrictlySortedBy text_cmp (keys_of es)) is sorted in
        none_after e.0 new h.0

    here : IsRecounted (tally_of was e.0) (steps_of all e.0) (tally_of next e.0)
    here =
        let its = next_is all left new e was now is each in
        subst (λ (s : List Step). IsRecounted (tally_of was e.0) s (tally_of next e.0)) (sym (ap (λ (s : Option Steps). steps_or_none s) its.0))
        (subst (λ (t : Option Tallied). IsRecounted (tally_in t) (steps_in e.1) (tally_of next e.0)) its.1 recounted)

    other : eq_by_cmp text_cmp e.0 o ≡ false → IsCountedOr all left was now o → IsCountedOr all new was next o
    other f before =
        let apart : is_at (text_cmp o) e.0 ≡ false = (eq_by_cmp_equiv nat_list_cmp_total).symm o e.0 ∙ f in
        let left_is : lookup (is_at (text_cmp o)) left ≡ lookup (is_at (text_cmp o)) new =
        ap (lookup (is_at (text_cmp o))) is ∙ ap (λ b. cond b (Some e.1) (lookup (is_at (text_cmp o)) new)) apart in
        elim before [
          | inl to_come ↦ inl (sym left_is ∙ to_come.0, others o f ∙ to_come.1)
          | inr done ↦ inr (
            sym left_is ∙ done.0,
            subst (λ (t : Option Tallied). IsRecounted (tally_of was o) (steps_of all o) (tally_in t))
                (sym (others o f)) done.1,
            subst IsListed (sym (others o f)) done.2,
          )
        ]

-- at the end all are counted
pub all_counted : (all : StepLists) (left : List (List ℕ × Steps)) (was now : Lists) → left ≡ []
    → ((o : List ℕ) → IsTally (tally_of was o)) → ((o : List ℕ) → IsCountedOr all left was now o) → (o : List ℕ)
    → IsRecounted (tally_of was o) (steps_of all o) (tally_of now o)
all_counted all left was now is tally each o =
    elim (each o) [
      | inr done ↦ done.1
      | inl to_come ↦
          let none : steps_of all o ≡ [] = ap (λ (s : Option Steps). steps_or_none s) (sym to_come.0 ∙ ap (lookup (is_at (text_cmp o))) is) in
          subst (λ (s : List Step). IsRecounted (tally_of was o) s (tally_of now o)) (sym none)
          (subst (λ (t : Option Tallied). IsRecounted (tally_of was o) [] (tally_in t)) (sym to_come.1) (record { tally = tally o; counts = λ m. refl }))
    ]

-- and none is empty, where none was without steps
pub all_listed : (all : StepLists) (left : List (List ℕ × Steps)) (was now : Lists) → left ≡ []
    → ((o : List ℕ) → tree.get text_cmp all o ≡ None → IsListed (tree.get text_cmp was o))
    → ((o : List ℕ) → IsCountedOr all left was now o) → (o : List ℕ) → IsListed (tree.get text_cmp now o)
all_listed all left was now is listed each o =
    elim (each o) [
      | inr done ↦ done.2
      | inl to_come ↦ subst IsListed (sym to_come.1) (listed o (sym to_come.0 ∙ ap (lookup (is_at (text_cmp o))) is))
    ]

pub later_sorted : (left new : List (List ℕ × Steps)) (e : List ℕ × Steps) → left ≡ e ∷ new
    → IsStrictlySortedBy text_cmp (keys_of left) → IsStrictlySortedBy text_cmp (keys_of new)
unfolding IsStrictlySortedBy
later_sorted left new e is sorted = let h : IsStrictlySortedBy text_cmp (keys_of (e ∷ new)) =
    subst (λ (es : List (List ℕ × Steps)). IsStrictlySortedBy text_cmp (keys_of es)) is sorted in h.1

-- ---- an index of nothing

pub none_counted : (x : Entries) (lists : Lists) → x ≡ fmap.empty → ((o : List ℕ) → tree.get text_cmp lists o ≡ None) → IsCounted x lists
none_counted x lists is none = record {
  tally = λ o. subst (λ (t : Option Tallied). IsTally (tally_in t)) (sym (none o)) tt;
  counts = λ o m. ap (λ (t : Option Tallied). count_of (tally_in t) m) (none o)
      ∙ sym (ap (λ (y : Entries). showing y o m) is ∙ ap (λ (es : List (Key × Kept)). showing_by (λ e. Some e.1) es o m)
      no_entries);
  listed = λ o. subst IsListed (sym (none o)) tt;
}
  where
    no_length : (es : List (Key × Kept)) → length es ≡ 0 → es ≡ []
    no_length [] e = refl
    no_length (x ∷ es) e = absurd (omega arith)

    no_entries : fmap.entries (fmap.empty {X = Kept} {R = key_cmp}) ≡ []
    no_entries = no_length (fmap.entries (fmap.empty {X = Kept} {R = key_cmp}))
        (sym (fmap.len-entries (fmap.empty {X = Kept} {R = key_cmp})) ∙ fmap.len-empty key_cmp Kept)

-- ---- an index after a merge

module _ (x news : Entries) (all : StepLists) (lists made : Lists) (counted : IsCounted x lists)
    (gathered : AreGathered x (fmap.entries news) all) (grow : (o : List ℕ)
    → Grows (tree.get text_cmp lists o) (tree.get text_cmp made o)) where
  made_tally : (o : List ℕ) → tally_of made o ≡ tally_of lists o
  made_tally o = grown_same (tree.get text_cmp lists o) (tree.get text_cmp made o) (grow o)

  pub tally_made : (o : List ℕ) → IsTally (tally_of made o)
  tally_made o = subst IsTally (sym (made_tally o)) (counted.tally o)

  counts_made : (o : List ℕ) (m : Memento) → count_of (tally_of made o) m ≡ showing x o m
  counts_made o m = ap (λ (es : List Counted). count_of es m) (made_tally o) ∙ counted.counts o m

  -- the steps can be counted
  pub can_count : (keys spare : ℕ) → keys ≡ fmap.len x → keys ≤ 18446744073709551615 → HaveRoom keys all made spare
      → (o : List ℕ) → CanCount (tally_of made o) (steps_of all o)
  can_count keys spare is fits room o = record {
    shown = λ m. omega (arith, gathered.shown o m, before-le x news o m, counts_made o m);
    few = λ m. omega (arith, counts_made o m, showing-le x o m, few (tree.get text_cmp all o) (tree.get text_cmp made o) m (room o));
  }
    where
      few : (s : Option Steps) (t : Option Tallied) (m : Memento) → IfSome s (HasRoom keys t spare)
          → keys + beginnings (steps_or_none s) m ≤ 18446744073709551615
      few None t m h = omega arith
      few (Some steps) None m h = absurd h
      few (Some steps) (Some t) m h = let most = h.1 in omega (arith, beginnings-le (steps_in steps) m, most)

  -- and once they are, the counts are those of the join
  pub counted_after : (y : Entries) (after : Lists) → y ≡ join x news
      → ((o : List ℕ) → IsRecounted (tally_of made o) (steps_of all o) (tally_of after o))
      → ((o : List ℕ) → IsListed (tree.get text_cmp after o)) → IsCounted y after
  counted_after y after is recounted listed = record {
    tally = λ o. (recounted o).tally;
    counts = λ o m.
        let joined = ap (λ (z : Entries). showing z o m) is in
        let steps = (recounted o).counts m in
        omega (arith, joined, steps, counts_made o m, join_shows x news o m, gathered.counts o m);
    listed = listed;
  }

-- the list of an original has what is shown of it
pub listed : (x : Entries) (lists : Lists) → IsCounted x lists → (o : List ℕ) → mementos_of (tally_of lists o) ≡ set.items (shown_of x o)
listed x lists counted o = tally_lists (tally_of lists o) (shown_of x o) (counted.tally o)
    (λ m held. let some = shown_counts x o m held in omega (arith, some, counted.counts o m))
    (λ m not. let none = not_shown_counts x o m not in omega (arith, none, counted.counts o m))
