-- The one state that has absorbed a merge, and the state that absorbed a batch.
use Rattle.std.proofs.Common.{◌≡◌, ◌⊎◌, ℕ, ◌+◌, Bool, true, false, cond, ◌&&◌, ◌||◌, List, [], ◌∷◌, ◌++◌, fold, Option, Some, None, is_some, refl}
use Rattle.std.proofs.Common.{sym, ap, subst, ◌∙◌, append_assoc, append-nil, inl, inr}
use Rattle.std.specs.Coded.{coded_option}
use Rattle.std.specs.List.{list_any}
use Rattle.std.specs.Ordering.{eq_by_cmp}
use Rattle.std.specs.FinMap as map
use Rattle.std.proofs.lemmas.Bool.{true≢false, and_parts}
use Rattle.std.proofs.lemmas.Bool.Decides.{Decides-eqb}
use Rattle.std.proofs.lemmas.List.Folds.{list_any-append}
use base.Stored.{Gv, gnil, gnum, gcons}
use Rattle.memento_index.specs.declared.merge.Merge.{Merge}
use Rattle.memento_index.specs.Merges.{adds_of}
use Rattle.memento_sets.proofs.Maps.{get-tabulate}
use Rattle.harvest_lattice.specs.Lattice.{Key, key_cmp, Kept, Entries, coded_kept, join, join_kept}
use Rattle.harvest_lattice.specs.Knowledge.{lat}
use Rattle.harvest_lattice.proofs.EntryOrder.{key_cmp_total, key_cmp_exact, get-join, none_joined}
use Rattle.replica_exchange.specs.Stamps.{StampedState, IsStamped, IsRestamped, IsAbsorbed}
use Rattle.replica_exchange.proofs.StampLemmas.{absorbed_is_stamped}
use Rattle.published_index.specs.Stamping.{same_code, is_same_entry, stamp_with, stamps_with, stamped_with}

-- ---- whether two entries are the same

pub same_code-itself : (a : Gv) → same_code a a ≡ true
same_code-itself gnil = refl
same_code-itself (gnum n) = (Decides-eqb n n).1 refl
same_code-itself (gcons a b) = ap (λ (t : Bool). t && same_code b b) (same_code-itself a) ∙ same_code-itself b

pub same_code-is : (a b : Gv) → same_code a b ≡ true → a ≡ b
same_code-is gnil gnil is = refl
same_code-is gnil (gnum n) is = absurd (true≢false (sym is))
same_code-is gnil (gcons a b) is = absurd (true≢false (sym is))
same_code-is (gnum m) gnil is = absurd (true≢false (sym is))
same_code-is (gnum m) (gnum n) is = ap (λ (k : ℕ). gnum k) ((Decides-eqb m n).0 is)
same_code-is (gnum m) (gcons a b) is = absurd (true≢false (sym is))
same_code-is (gcons x y) gnil is = absurd (true≢false (sym is))
same_code-is (gcons x y) (gnum n) is = absurd (true≢false (sym is))
same_code-is (gcons x y) (gcons a b) is =
    let each = and_parts (same_code x a) (same_code y b) is in
    let head = same_code-is x a each.0 in
    let tail = same_code-is y b each.1 in
    λ i. gcons (head i) (tail i)

same_entry-is : (a b : Option Kept) → is_same_entry a b ≡ true → a ≡ b
unfolding is_same_entry
same_entry-is a b is = (coded_option coded_kept).inj a b (same_code-is _ _ is)

same_entry : (a b : Option Kept) → a ≡ b → is_same_entry a b ≡ true
unfolding is_same_entry
same_entry a b same =
    subst (λ (o : Option Kept). same_code ((coded_option coded_kept).code a) ((coded_option coded_kept).code o) ≡ true) same (same_code-itself ((coded_option coded_kept).code a))

-- ---- the stamps after a merge

-- at a key that has neither an entry nor a stamp there is none
where_any : (now was : Option Kept) (stamp : Option ℕ) (next : ℕ) → (now ≡ None → was ≡ None)
    → cond (is_some now || is_some stamp) (cond (is_same_entry now was) stamp (Some next)) None ≡ cond (is_same_entry now was) stamp (Some next)
where_any (Some v) was stamp next grows = refl
where_any None was (Some n) next grows = refl
where_any None was None next grows = sym (ap (λ (b : Bool). cond b None (Some next)) (same_entry None was (sym (grows refl))))

get-stamps_with : (s : StampedState) (y : Entries) (k : Key) → map.get (stamps_with s (join s.entries y)) k ≡ stamp_with s (join s.entries y) k
get-stamps_with s y k =
    let now : Entries = join s.entries y in
    let any : list_any (eq_by_cmp key_cmp k) (map.keys now ++ map.keys s.stamps) ≡ (is_some (map.get now k) || is_some (map.get s.stamps k)) =
    list_any-append (eq_by_cmp key_cmp k) (map.keys now) (map.keys s.stamps) ∙ (λ i. sym (map.contains_key-keys now k) i || sym (map.contains_key-keys s.stamps k) i) in
    get-tabulate key_cmp_total key_cmp_exact (map.keys now ++ map.keys s.stamps) (stamp_with s now) k
    ∙ (ap (λ (b : Bool). cond b (stamp_with s now k) None) any
    ∙ where_any (map.get now k) (map.get s.entries k) (map.get s.stamps k) (s.number + 1) (λ none. none_joined join_kept (map.get s.entries k) (map.get y k) (sym (get-join s.entries y k) ∙ none)))

restamped : (now was : Option Kept) (stamp stamped : Option ℕ) (next : ℕ) (b : Bool) → is_same_entry now was ≡ b → stamped ≡ cond b stamp (Some next)
    → ((now ≡ was) × (stamped ≡ stamp)) ⊎ ((¬ (now ≡ was)) × (stamped ≡ Some next))
restamped now was stamp stamped next true is at = inl (same_entry-is now was is, at)
restamped now was stamp stamped next false is at = inr (λ same. true≢false (sym (same_entry now was same) ∙ is), at)

-- ---- one merge more

pub absorbs : (s : StampedState) (m : Merge) → IsAbsorbed s m (stamped_with s m)
unfolding stamped_with
absorbs s m = record {
  entries = refl;
  stamps = λ k.
      let now : Entries = join s.entries (lat (adds_of m)) in
      restamped (map.get now k) (map.get s.entries k) (map.get s.stamps k) (map.get (stamps_with s now) k) (s.number + 1)
      (is_same_entry (map.get now k) (map.get s.entries k)) refl (get-stamps_with s (lat (adds_of m)) k);
  number = refl;
  incarnation = refl;
}

one_stamp : (s t u : StampedState) (k : Key) → t.entries ≡ u.entries → t.number ≡ u.number → IsRestamped s t k → IsRestamped s u k → map.get t.stamps k ≡ map.get u.stamps k
one_stamp s t u k entries number (inl (same, stamp)) (inl (other, stamp')) = stamp ∙ sym stamp'
one_stamp s t u k entries number (inl (same, stamp)) (inr (changed, stamp')) = absurd (changed (ap (λ (e : Entries). map.get e k) (sym entries) ∙ same))
one_stamp s t u k entries number (inr (changed, stamp)) (inl (other, stamp')) = absurd (changed (ap (λ (e : Entries). map.get e k) entries ∙ other))
one_stamp s t u k entries number (inr (changed, stamp)) (inr (other, stamp')) = stamp ∙ (ap (λ (n : ℕ). Some n) number ∙ sym stamp')

one_absorbed : (s : StampedState) (m : Merge) (t u : StampedState) → IsAbsorbed s m t → IsAbsorbed s m u → t ≡ u
one_absorbed s m t u it is =
    let entries : t.entries ≡ u.entries = it.entries ∙ sym is.entries in
    let number : t.number ≡ u.number = it.number ∙ sym is.number in
    let incarnation : t.incarnation ≡ u.incarnation = it.incarnation ∙ sym is.incarnation in
    let stamps : t.stamps ≡ u.stamps = map.same_map key_cmp_total key_cmp_exact t.stamps u.stamps (λ k. one_stamp s t u k entries number (it.stamps k) (is.stamps k)) in
    λ i. record { entries = entries i; stamps = stamps i; number = number i; incarnation = incarnation i }

-- what has absorbed a merge is what the merge makes of it
pub absorbed_is : (s : StampedState) (m : Merge) (t : StampedState) → IsAbsorbed s m t → t ≡ stamped_with s m
absorbed_is s m t it = one_absorbed s m t (stamped_with s m) it (absorbs s m)

-- ---- a batch more

pub absorbs_batch : (ms batch : List Merge) (s : StampedState) → IsStamped ms s → IsStamped (ms ++ batch) (fold stamped_with s batch)
absorbs_batch ms [] s is = subst (λ (l : List Merge). IsStamped l s) (sym (append-nil ms)) is
absorbs_batch ms (m ∷ batch) s is =
    subst (λ (l : List Merge). IsStamped l (fold stamped_with (stamped_with s m) batch)) (append_assoc ms (m ∷ []) batch)
    (absorbs_batch (ms ++ m ∷ []) batch (stamped_with s m) (absorbed_is_stamped ms m s (stamped_with s m) is (absorbs s m)))

pub batch_keeps_incarnation : (batch : List Merge) (s : StampedState) → (fold stamped_with s batch).incarnation ≡ s.incarnation
batch_keeps_incarnation [] s = refl
batch_keeps_incarnation (m ∷ batch) s = batch_keeps_incarnation batch (stamped_with s m) ∙ (absorbs s m).incarnation
