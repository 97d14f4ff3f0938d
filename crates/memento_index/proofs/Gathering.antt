-- The steps of a state's changes.
use Rattle.std.proofs.Common.{◌≡◌, ℕ, zero, suc, ◌+◌, ◌<◌, ◌≤◌, Bool, true, false, cond, ◌||◌, map, take, length}
use Rattle.std.proofs.Common.{get_or, List, [], ◌∷◌, ◌++◌, Option, Some, None, IfSome}
use Rattle.std.proofs.Common.{refl, sym, ap, subst, ◌∙◌, arith}
use Rattle.std.specs.List.{AllByRecursion}
use Rattle.std.specs.List.Sorted.{IsStrictlySortedBy}
use Rattle.std.specs.Ordering.{eq_by_cmp, is_eq, nat_cmp}
use Rattle.std.specs.declared.cmp.Ordering.TheVariants.{Less}
use Rattle.std.specs.FinMap as fmap
use Rattle.std.specs.BTreeMap as tree
use Rattle.std.specs.BTreeMap.{is_at}
use Rattle.std.specs.Cmp.{eq_by_cmp_equiv, Equal-is, tied_itself}
use Rattle.std.specs.Cmp.Lexicographic.{nat_list_cmp_total}
use Rattle.std.proofs.lemmas.List.{take_more, nil_from_length}
use Rattle.std.proofs.lemmas.Option.{same_Some}
use Rattle.std.specs.List.{list_any, slice_get}
use Rattle.memento_time.specs.Mementos.{text_cmp, memento_cmp}
use Rattle.memento_time.specs.declared.mementos.Memento.{Memento}
use Rattle.memento_time.proofs.MementoLemmas.{memento_cmp_exact}
use Rattle.memento_sets.specs.Sets as set
use Rattle.memento_sets.specs.MementoSets.{Mementos}
use Rattle.memento_sets.proofs.Sets.{items_sorted}
use Rattle.harvest_lattice.specs.Lattice.{Key, Kept, Entries, held, IsAtMostAt, is_whole-kept_from, join_kept, join_at, same_parts}
use Rattle.harvest_lattice.specs.Knowledge.{mementos_of}
use Rattle.harvest_lattice.specs.News.{AreApart, IsFresh, IsNews}
use Rattle.harvest_lattice.specs.Parts.{kept_in, AreOfOne}
use Rattle.harvest_lattice.specs.Rows.{row_entry}
use Rattle.harvest_lattice.specs.declared.row.Row.{Row}
use Rattle.harvest_lattice.proofs.Entries.{unite, contains-union, revision_itself}
use Rattle.harvest_lattice.proofs.Parts.{entries_in, entries_of_it, alone_joined}
use Rattle.harvest_lattice.proofs.ShownLemmas.{shown_of_one}
use Rattle.harvest_lattice.proofs.RowLemmas.{map_push}
use Rattle.memento_index.proofs.Puts.{joined_there, joined_alone}
use Rattle.harvest_lattice.proofs.ShelfLemmas.{same_text}
use Rattle.harvest_lattice.proofs.Walked.{value_at}
use Rattle.memento_index.specs.declared.counted.Step.{Step}
use Rattle.memento_index.specs.declared.counted.Steps.{Steps}
use Rattle.memento_index.specs.Counts.{once, occurrences, beginnings, endings}
use Rattle.memento_index.specs.Showing.{shows_one, showing_by, shown_before, shown_after}
use Rattle.memento_index.specs.Lists.{Lists, StepLists, each_step, steps_in, steps_or_none, steps_of, tally_of}
use Rattle.memento_index.specs.Lists.{FitsList, FitLists, AreNews, IsNewsAt, IsReplaced, AreStepped, IsShifted}
use Rattle.memento_index.specs.Lists.{AreGathered}
use Rattle.memento_index.proofs.Shared.{replaced_begin, replaced_end}

-- ---- a set's members in order stand once each

none_held : (m : Memento) (ms : List Memento) → AllByRecursion (λ n. memento_cmp m n ≡ Less) ms → occurrences ms m ≡ 0
none_held m [] h = refl
none_held m (n ∷ ms) h =
    let rest = none_held m ms h.1 in
    let not : once m n ≡ 0 = ap (λ o. cond (is_eq o) 1 0) h.0 in
    omega (arith, rest, not)

held_any : (ms : List Memento) → IsStrictlySortedBy memento_cmp ms → (m : Memento) → occurrences ms m ≡ cond (list_any (eq_by_cmp memento_cmp m) ms) 1 0
unfolding IsStrictlySortedBy
held_any [] h m = refl
held_any (n ∷ ms) h m =
    let rest = held_any ms h.1 m in
    elim (eq_by_cmp memento_cmp m n) as (λ b. eq_by_cmp memento_cmp m n ≡ b → cond b 1 0 + occurrences ms m
    ≡ cond (b || list_any (eq_by_cmp memento_cmp m) ms) 1 0) [
      | true ↦ λ t.
          let same : m ≡ n = memento_cmp_exact m n ((Equal-is (memento_cmp m n)).0 t) in
          let none : occurrences ms m ≡ 0 = ap (occurrences ms) same ∙ none_held n ms h.0 in
          omega (arith, none)
      | false ↦ λ _. omega (arith, rest)
    ] refl

pub held_items : (s : Mementos) (m : Memento) → occurrences (set.items s) m ≡ cond (set.contains s m) 1 0
held_items s m = held_any (set.items s) (items_sorted memento_cmp s) m ∙ ap (λ b. cond b 1 0) (sym (fmap.contains_key-keys s m))

-- ---- what an entry makes of the one that stands at its key

-- an entry of one revision is made of it
kept_itself : (k : Kept) (p : ℕ × Mementos) → fmap.entries k.revisions ≡ p ∷ [] → kept_in k.is_whole p [] ≡ k
kept_itself k p is =
    let made : (kept_in k.is_whole p []).revisions ≡ k.revisions = fmap.same_entries_map _ _ (entries_in k.is_whole p [] tt ∙ sym is) in
    same_parts _ _ (λ i. (is_whole-kept_from k.is_whole p.0 p.1 (fmap.from_entries []) i, made i))

-- two of one and the same revision are united there
one_joined : (a e : Kept) (one : AreOfOne a e) → mementos_of (join_kept a e) ≡ unite one.1 one.2
one_joined a e one =
    let r = one.0 in
    let s = one.1 in
    let t = one.2 in
    let joined = alone_joined a.is_whole e.is_whole (r, s) (r, t) [] [] a e (kept_itself a (r, s) one.3) (kept_itself e (r, t) one.4) tt tt one in
    sym (shown_of_one (join_kept a e) (r, unite s t) (entries_of_it (a.is_whole || e.is_whole) (r, unite s t) [] (join_kept a e) joined.1 joined.0))

held_one : (k : Kept) (r : ℕ) (s : Mementos) → fmap.entries k.revisions ≡ (r, s) ∷ [] → held k r ≡ Some s
held_one k r s is = fmap.get-entries k.revisions r ∙ (ap (fmap.find nat_cmp r) is ∙ ap (λ b. cond b (Some s) None) (revision_itself r))

-- beside what is held at its revision
pub comes_beside : (x : Entries) (e : Key × Kept) (a : Kept) (before after : List Memento) →
    fmap.get x e.0 ≡ Some a → AreOfOne a e.1 → IsNewsAt x e → before ≡ [] → after ≡ set.items (mementos_of e.1) → IsReplaced x e before after
comes_beside x e a before after there one news none new = record {
  shows = λ m. omega (arith, joins m, was m, come m, nothing m);
  shown = λ m. omega (arith, nothing m);
}
  where
    apart : AreApart one.1 one.2
    apart =
        let at : IfSome (held a one.0) (λ s. IfSome (held e.1 one.0) (λ t. AreApart s t)) =
        (subst (λ (o : Option Kept). IfSome o (λ k. (r : ℕ) → IfSome (held k r) (λ s. IfSome (held e.1 r) (λ t. AreApart s t)))) there news.1) one.0 in
        subst (λ (v : Option Mementos). IfSome v (λ t. AreApart one.1 t)) (held_one e.1 one.0 one.2 one.4)
        (subst (λ (v : Option Mementos). IfSome v (λ s. IfSome (held e.1 one.0) (λ t. AreApart s t))) (held_one a one.0 one.1 one.3) at)

    sum_of : (p q : Bool) → (p ≡ true → q ≡ true → ⊥) → cond {A = ℕ} (p || q) 1 0 ≡ cond {A = ℕ} p 1 0 + cond {A = ℕ} q 1 0
    sum_of true true apart = absurd (apart refl refl)
    sum_of true false apart = refl
    sum_of false q apart = omega arith

    nothing : (m : Memento) → occurrences before m ≡ 0
    nothing m = ap (λ (ms : List Memento). occurrences ms m) none

    was : (m : Memento) → shows_one (fmap.get x e.0) m ≡ cond (set.contains one.1 m) 1 0
    was m = ap (λ (o : Option Kept). shows_one o m) there ∙ ap (λ (s : Mementos). cond (set.contains s m) 1 0) (sym (shown_of_one a (one.0, one.1) one.3))

    come : (m : Memento) → occurrences after m ≡ cond (set.contains one.2 m) 1 0
    come m =
        ap (λ (ms : List Memento). occurrences ms m) new
        ∙ (held_items (mementos_of e.1) m ∙ ap (λ (s : Mementos). cond (set.contains s m) 1 0) (sym (shown_of_one e.1 (one.0, one.2) one.4)))

    joins : (m : Memento) → shows_one (Some (join_at x e)) m ≡ cond (set.contains one.1 m) 1 0 + cond (set.contains one.2 m) 1 0
    joins m =
        ap (λ (k : Kept). shows_one (Some k) m) (joined_there x e a there)
        ∙ (ap (λ (s : Mementos). cond (set.contains s m) 1 0) (one_joined a e.1 one)
        ∙ (ap (λ b. cond b 1 0) (contains-union one.1 one.2 m) ∙ sum_of (set.contains one.1 m) (set.contains one.2 m) (apart m)))

-- or in the place of all that is held
pub takes_place : (x : Entries) (e : Key × Kept) (a : Kept) (before after : List Memento) →
    fmap.get x e.0 ≡ Some a → before ≡ set.items (mementos_of a) → after ≡ set.items (mementos_of (join_kept a e.1)) → IsReplaced x e before after
takes_place x e a before after there old new = record {
  shows = λ m. omega (arith, now m, was m, come m, gone m);
  shown = λ m. omega (arith, was m, gone m);
}
  where
    was : (m : Memento) → shows_one (fmap.get x e.0) m ≡ cond (set.contains (mementos_of a) m) 1 0
    was m = ap (λ (o : Option Kept). shows_one o m) there

    now : (m : Memento) → shows_one (Some (join_at x e)) m ≡ cond (set.contains (mementos_of (join_kept a e.1)) m) 1 0
    now m = ap (λ (k : Kept). shows_one (Some k) m) (joined_there x e a there)

    gone : (m : Memento) → occurrences before m ≡ cond (set.contains (mementos_of a) m) 1 0
    gone m = ap (λ (ms : List Memento). occurrences ms m) old ∙ held_items (mementos_of a) m

    come : (m : Memento) → occurrences after m ≡ cond (set.contains (mementos_of (join_kept a e.1)) m) 1 0
    come m = ap (λ (ms : List Memento). occurrences ms m) new ∙ held_items (mementos_of (join_kept a e.1)) m

-- or where nothing is held
pub comes_alone : (x : Entries) (e : Key × Kept) (before after : List Memento) → fmap.get x e.0 ≡ None → before ≡ []
    → after ≡ set.items (mementos_of e.1) → IsReplaced x e before after
comes_alone x e before after none nil new = record {
  shows = λ m. omega (arith, now m, was m, come m, nothing m);
  shown = λ m. omega (arith, nothing m);
}
  where
    nothing : (m : Memento) → occurrences before m ≡ 0
    nothing m = ap (λ (ms : List Memento). occurrences ms m) nil

    was : (m : Memento) → shows_one (fmap.get x e.0) m ≡ 0
    was m = ap (λ (o : Option Kept). shows_one o m) none

    now : (m : Memento) → shows_one (Some (join_at x e)) m ≡ cond (set.contains (mementos_of e.1) m) 1 0
    now m = ap (λ (k : Kept). shows_one (Some k) m) (joined_alone x e none)

    come : (m : Memento) → occurrences after m ≡ cond (set.contains (mementos_of e.1) m) 1 0
    come m = ap (λ (ms : List Memento). occurrences ms m) new ∙ held_items (mementos_of e.1) m

-- a single revision, by how many there are and the first one
only_one : (es : List (ℕ × Mementos)) (r : ℕ) → length es ≡ 1 → slice_get (map (λ e. e.0) es) 0 ≡ Some r → (s : Mementos) × (es ≡ (r, s) ∷ [])
only_one [] r len first = absurd (omega arith)
only_one (e ∷ []) r len first = (e.1, λ i. (same_Some e.0 r first i, e.1) ∷ [])
only_one (e ∷ f ∷ es) r len first = absurd (omega arith)

pub are_of_one : (a b : Kept) (m n r q : ℕ) →
    m ≡ fmap.len a.revisions → n ≡ fmap.len b.revisions → m ≡ 1 → n ≡ 1 → slice_get (fmap.keys a.revisions) 0 ≡ Some r
    → slice_get (fmap.keys b.revisions) 0 ≡ Some q → r ≡ q → AreOfOne a b
are_of_one a b m n r q ma nb one1 one2 fa fb same =
    let left = only_one (fmap.entries a.revisions) r (sym (fmap.len-entries a.revisions) ∙ (sym ma ∙ one1)) fa in
    let right = only_one (fmap.entries b.revisions) q (sym (fmap.len-entries b.revisions) ∙ (sym nb ∙ one2)) fb in
    (r, left.0, right.0, left.1, right.1 ∙ ap (λ p. (p, right.0) ∷ []) (sym same))

-- ---- steps added

beginnings-append : (ss ts : List Step) (m : Memento) → beginnings (ss ++ ts) m ≡ beginnings ss m + beginnings ts m
beginnings-append [] ts m = omega arith
beginnings-append (s ∷ ss) ts m = let rest = beginnings-append ss ts m in omega (arith, rest)

endings-append : (ss ts : List Step) (m : Memento) → endings (ss ++ ts) m ≡ endings ss m + endings ts m
endings-append [] ts m = omega arith
endings-append (s ∷ ss) ts m = let rest = endings-append ss ts m in omega (arith, rest)

pub stepped : (before after : List Memento) (old more new : List Step) → new ≡ old ++ more
    → ((m : Memento) → beginnings more m + occurrences before m ≡ endings more m + occurrences after m)
    → ((m : Memento) → endings more m ≤ occurrences before m) → AreStepped before after old new
stepped before after old more new is counts shown = record {
  counts = λ m. omega (
    arith,
    counts m,
    shown m,
    ap (λ (ss : List Step). beginnings ss m) is,
    ap (λ (ss : List Step). endings ss m) is,
    beginnings-append old more m,
    endings-append old more m,
  );
  shown = λ m. omega (arith, shown m, ap (λ (ss : List Step). endings ss m) is, endings-append old more m);
}

-- the steps from what goes to what comes are those of the archive
pub shifted : (x : Entries) (e : Key × Kept) (before after : List Memento) (old new : List Step)
    → IsReplaced x e before after → AreStepped before after old new → IsShifted x e old new
shifted x e before after old new replaced steps = record {
  counts = λ m. omega (arith, replaced.shows m, replaced.shown m, steps.counts m, steps.shown m);
  shown = λ m. omega (arith, replaced.shown m, steps.shown m);
}

-- all that goes ceases, and all that comes begins
pub shifted_all : (x : Entries) (e : Key × Kept) (before after : List Memento) → IsReplaced x e before after
    → IsShifted x e [] (each_step false before ++ each_step true after)
shifted_all x e before after replaced = record {
  counts = λ m. omega (arith, replaced.shows m, replaced.shown m, replaced_begin before after m, replaced_end before after m);
  shown = λ m. omega (arith, replaced.shown m, replaced_end before after m);
}

-- ---- steps taken out and put back

pub none_gone : (m : StepLists) (a : List ℕ) → tree.get text_cmp m a ≡ None → (o : List ℕ) → tree.get text_cmp m o
    ≡ cond (eq_by_cmp text_cmp a o) None (tree.get text_cmp m o)
none_gone m a none o =
    elim (eq_by_cmp text_cmp a o) as (λ b. eq_by_cmp text_cmp a o ≡ b → tree.get text_cmp m o ≡ cond b None (tree.get text_cmp m o)) [
      | true ↦ λ t. ap (λ p. tree.get text_cmp m p) (sym (same_text a o t)) ∙ none
      | false ↦ λ _. refl
    ] refl

-- the steps of an original are none once they were taken out
pub steps_left_out : (m n : StepLists) (a : List ℕ) (ss : List Step)
    → ((q : List ℕ) → tree.get text_cmp n q ≡ cond (eq_by_cmp text_cmp a q) None (tree.get text_cmp m q)) → length ss ≡ 0 → steps_of n a ≡ ss
steps_left_out m n a ss gone none =
    let left : tree.get text_cmp n a ≡ None = gone a ∙ ap (λ b. cond b None (tree.get text_cmp m a)) (ap is_eq (tied_itself nat_list_cmp_total a)) in
    ap (λ (s : Option Steps). steps_or_none s) left ∙ sym (nil_from_length ss none)

module _ (m n w : StepLists) (a k : List ℕ) (v : Steps) (gone : (q : List ℕ) → tree.get text_cmp n q
    ≡ cond (eq_by_cmp text_cmp a q) None (tree.get text_cmp m q)) (put : (q : List ℕ) → tree.get text_cmp w q
    ≡ cond (is_at (text_cmp k) q) (Some v) (tree.get text_cmp n q)) (same : k ≡ a) where
  here : tree.get text_cmp w a ≡ Some v
  here = put a ∙ ap (λ b. cond b (Some v) (tree.get text_cmp n a)) (ap (λ p. is_at (text_cmp p) a) same ∙ ap is_eq (tied_itself nat_list_cmp_total a))

  elsewhere : (o : List ℕ) → eq_by_cmp text_cmp a o ≡ false → tree.get text_cmp w o ≡ tree.get text_cmp m o
  elsewhere o apart = put o ∙ (ap (λ b. cond b (Some v) (tree.get text_cmp n o)) (ap (λ p. is_at (text_cmp p) o) same
      ∙ apart) ∙ (gone o ∙ ap (λ b. cond b None (tree.get text_cmp m o)) apart))

  pub steps_put : steps_of w a ≡ steps_in v
  steps_put = ap (λ (s : Option Steps). steps_or_none s) here

  pub others_stay : (o : List ℕ) → eq_by_cmp text_cmp a o ≡ false → steps_of w o ≡ steps_of m o
  others_stay o apart = ap (λ (s : Option Steps). steps_or_none s) (elsewhere o apart)

  pub fit_put : (lists : Lists) → FitLists lists m → FitsList (tally_of lists a) v → FitLists lists w
  fit_put lists first comes o =
      elim (eq_by_cmp text_cmp a o) as (λ b. eq_by_cmp text_cmp a o ≡ b → IfSome (tree.get text_cmp w o) (FitsList (tally_of lists o))) [
        | true ↦ λ t. subst (λ p. IfSome (tree.get text_cmp w p) (FitsList (tally_of lists p))) (same_text a o t)
            (subst (λ (s : Option Steps). IfSome s (FitsList (tally_of lists a))) (sym here) comes)
        | false ↦ λ apart. subst (λ (s : Option Steps). IfSome s (FitsList (tally_of lists o))) (sym (elsewhere o apart)) (first o)
      ] refl

-- ---- row after row

by-append : (kept : Key × Kept → Option Kept) (es fs : List (Key × Kept)) (o : List ℕ) (m : Memento)
    → showing_by kept (es ++ fs) o m ≡ showing_by kept es o m + showing_by kept fs o m
by-append kept [] fs o m = omega arith
by-append kept (e ∷ es) fs o m = let rest = by-append kept es fs o m in omega (arith, rest)

pub none_gathered : (x : Entries) (all : StepLists) → ((o : List ℕ) → steps_of all o ≡ []) → AreGathered x [] all
none_gathered x all none = record {
  counts = λ o m. let steps = none o in omega (arith, ap (λ (ss : List Step). beginnings ss m) steps, ap (λ (ss : List Step). endings ss m) steps);
  shown = λ o m. omega (arith, ap (λ (ss : List Step). endings ss m) (none o));
}

pub one_more_gathered : (x : Entries) (es : List (Key × Kept)) (e : Key × Kept) (was now : StepLists)
    → AreGathered x es was → IsShifted x e (steps_of was e.0.1) (steps_of now e.0.1)
    → ((o : List ℕ) → eq_by_cmp text_cmp e.0.1 o ≡ false → steps_of now o ≡ steps_of was o)
    → AreGathered x (es ++ e ∷ []) now
one_more_gathered x es e was now gathered here others = record {
  counts = λ o m. both o m (counts o m);
  shown = λ o m. less o m (shown o m);
}
  where
    alike : (o : List ℕ) → eq_by_cmp text_cmp o e.0.1 ≡ eq_by_cmp text_cmp e.0.1 o
    alike o = (eq_by_cmp_equiv nat_list_cmp_total).symm o e.0.1

    before-append : (o : List ℕ) (m : Memento) → shown_before x (es ++ e ∷ []) o m
        ≡ shown_before x es o m + (cond (eq_by_cmp text_cmp e.0.1 o) (shows_one (fmap.get x e.0) m) 0 + 0)
    before-append o m = by-append (λ f. fmap.get x f.0) es (e ∷ []) o m
        ∙ ap (λ b. shown_before x es o m + (cond b (shows_one (fmap.get x e.0) m) 0 + 0)) (alike o)

    after-append : (o : List ℕ) (m : Memento) → shown_after x (es ++ e ∷ []) o m
        ≡ shown_after x es o m + (cond (eq_by_cmp text_cmp e.0.1 o) (shows_one (Some (join_at x e)) m) 0 + 0)
    after-append o m = by-append (λ f. Some (join_at x f)) es (e ∷ []) o m
        ∙ ap (λ b. shown_after x es o m + (cond b (shows_one (Some (join_at x e)) m) 0 + 0)) (alike o)

    counts : (o : List ℕ) (m : Memento)
        → beginnings (steps_of now o) m + (shown_before x es o m +
        (cond (eq_by_cmp text_cmp e.0.1 o) (shows_one (fmap.get x e.0) m) 0 + 0)) ≡ endings (steps_of now o) m +
        (shown_after x es o m + (cond (eq_by_cmp text_cmp e.0.1 o) (shows_one (Some (join_at x e)) m) 0 + 0))
    counts o m =
        elim (eq_by_cmp text_cmp e.0.1 o) as (λ b. eq_by_cmp text_cmp e.0.1 o ≡ b
        → beginnings (steps_of now o) m + (shown_before x es o m + (cond b (shows_one (fmap.get x e.0) m) 0 + 0))
        ≡ endings (steps_of now o) m + (shown_after x es o m + (cond b (shows_one (Some (join_at x e)) m) 0 + 0))) [
          | true ↦ λ t.
              let at : IsShifted x e (steps_of was o) (steps_of now o) =
              subst (λ p. IsShifted x e (steps_of was p) (steps_of now p)) (same_text e.0.1 o t) here in
              omega (arith, at.counts m, gathered.counts o m)
          | false ↦ λ f.
              let same = others o f in
              omega (arith, gathered.counts o m, ap (λ (ss : List Step). beginnings ss m) same, ap (λ (ss : List Step). endings ss m) same)
        ] refl

    shown : (o : List ℕ) (m : Memento) → endings (steps_of now o) m ≤ shown_before x es o m +
        (cond (eq_by_cmp text_cmp e.0.1 o) (shows_one (fmap.get x e.0) m) 0 + 0)
    shown o m =
        elim (eq_by_cmp text_cmp e.0.1 o) as (λ b. eq_by_cmp text_cmp e.0.1 o ≡ b
        → endings (steps_of now o) m ≤ shown_before x es o m + (cond b (shows_one (fmap.get x e.0) m) 0 + 0)) [
          | true ↦ λ t.
              let at : IsShifted x e (steps_of was o) (steps_of now o) =
              subst (λ p. IsShifted x e (steps_of was p) (steps_of now p)) (same_text e.0.1 o t) here in
              omega (arith, at.shown m, gathered.shown o m)
          | false ↦ λ f.
              let same = others o f in
              omega (arith, gathered.shown o m, ap (λ (ss : List Step). endings ss m) same)
        ] refl

    both : (o : List ℕ) (m : Memento) → beginnings (steps_of now o) m +
        (shown_before x es o m + (cond (eq_by_cmp text_cmp e.0.1 o) (shows_one (fmap.get x e.0) m) 0 + 0))
        ≡ endings (steps_of now o) m + (shown_after x es o m +
        (cond (eq_by_cmp text_cmp e.0.1 o) (shows_one (Some (join_at x e)) m) 0 + 0))
        → beginnings (steps_of now o) m + shown_before x (es ++ e ∷ []) o m ≡ endings (steps_of now o) m + shown_after x
        (es ++ e ∷ []) o m
    both o m h = omega (arith, h, before-append o m, after-append o m)

    less : (o : List ℕ) (m : Memento) → endings (steps_of now o) m ≤ shown_before x es o m +
        (cond (eq_by_cmp text_cmp e.0.1 o) (shows_one (fmap.get x e.0) m) 0 + 0)
        → endings (steps_of now o) m ≤ shown_before x (es ++ e ∷ []) o m
    less o m h = omega (arith, h, before-append o m)

-- ---- each row is news

pub are_news : (x y news : Entries) → IsNews x y news → AreNews x news
are_news x y news is k = by (fmap.get news k) (is.differs k) (is.fresh k)
  where
    by : (o : Option Kept) → IfSome o (λ e. IsAtMostAt x (k, e) → ⊥) → IfSome o (λ e. IsFresh x k e) → IfSome o (λ e. IsNewsAt x (k, e))
    by None differs fresh = tt
    by (Some e) differs fresh = (differs, fresh)

row_at : (rows : List Row) (i : ℕ) (row : Row) → i < length rows → row ≡ get_or rows i row → slice_get (map row_entry rows) i ≡ Some (row_entry row)
row_at [] i row lt is = absurd (omega arith)
row_at (r ∷ rows) zero row lt is = ap (λ (q : Row). Some (row_entry q)) (sym is)
row_at (r ∷ rows) (suc i) row lt is = row_at rows i row (omega arith) is

pub row_is_news : (x news : Entries) (rows : List Row) (i : ℕ) (row : Row) → AreNews x news → map row_entry rows
    ≡ fmap.entries news → i < length rows → row ≡ get_or rows i row → IsNewsAt x (row_entry row)
row_is_news x news rows i row are its lt is =
    let e = row_entry row in
    let here : slice_get (fmap.entries news) i ≡ Some e = ap (λ (es : List (Key × Kept)). slice_get es i) (sym its) ∙ row_at rows i row lt is in
    subst (λ (o : Option Kept). IfSome o (λ v. IsNewsAt x (e.0, v))) (value_at news i e here) (are e.0)

-- the rows up to one more
pub rows_turn : (rows : List Row) (i : ℕ) (row : Row) → i < length rows → row ≡ get_or rows i row
    → map row_entry (take (i + 1) rows) ≡ map row_entry (take i rows) ++ row_entry row ∷ []
rows_turn rows i row lt is = ap (map row_entry) (take_more rows i row lt ∙ ap (λ r. take i rows ++ r ∷ []) (sym is)) ∙ map_push row_entry (take i rows) row
