-- Which rows fill a part, and that they are those between its places.
use Rattle.std.proofs.Common.{◌≡◌, ℕ, ◌+◌, ◌<◌, Bool, true, false, cond, ◌&&◌, List, [], ◌∷◌, ◌++◌, length, Option, None, Some, refl, sym, ap, subst, ◌∙◌, append_assoc, arith, true≢false}
use Rattle.std.specs.Prelude.{T, not, All, IfSome}
use Rattle.std.specs.Fmt.{decimal}
use Rattle.std.specs.List.{flat_map, filter}
use Rattle.std.specs.declared.cmp.Ordering.{Ordering}
use Rattle.std.specs.declared.cmp.Ordering.TheVariants.{Less, Equal, Greater}
use Rattle.std.specs.Ordering.{is_lt, is_gt, ordering_reverse}
use Rattle.std.specs.Cmp.{tied_itself}
use Rattle.std.specs.FinMap as map
use Rattle.std.specs.FinMap.Entries.{same_entries, where_key, is_sorted-where_key, find-where_key, below_all}
use Rattle.std.proofs.lemmas.List.{append-nil, length-append}
use Rattle.std.proofs.lemmas.List.Elements.{filter-append, All-nil, All-push, All-append}
use Rattle.std.proofs.lemmas.Grind.{flat_map-append}
use Rattle.memento_sets.proofs.Rising.{is_true}
use Rattle.memento_sets.proofs.Sets.{two_parts}
use Rattle.harvest_lattice.specs.Lattice.{Key, key_cmp, Kept, Entries}
use Rattle.harvest_lattice.specs.Rows.{comes_behind, rows_behind}
use Rattle.harvest_lattice.proofs.EntryOrder.{key_cmp_total, key_cmp_exact}
use Rattle.replica_exchange.specs.StateText.{entry_text, counted_text, IsEntry}
use Rattle.replica_exchange.specs.Stamps.{StampedState, above, is_above, entries_above}
use Rattle.replica_exchange.proofs.StampLemmas.{entries_filtered}
use Rattle.delta_parts.specs.declared.place.Place.{Place}
use Rattle.delta_parts.specs.PartRule.{key_of, is_past, is_behind, is_until, is_within, has_key, in_part, entries_within}
use Rattle.delta_parts.specs.Filling.{rows_from, rows_above, HasLines, EndsWith, IsLast, IsCut, IsFilled}

-- ---- lines

pub no_lines : (s : StampedState) (n : ℕ) (text : List ℕ) (count : ℕ) → text ≡ [] → count ≡ 0 → HasLines s n [] [] text 0 count
no_lines s n text count none zero = record { text = none; fits = All-nil IsEntry; counted = zero }

-- the same lines
pub lines_as : (s : StampedState) (n : ℕ) (rows : List (Key × Kept)) (before after text : List ℕ) (count more many : ℕ) → text ≡ after → many ≡ more → HasLines s n rows before after count more
    → HasLines s n rows before text count many
lines_as s n rows before after text count more many is_text counted lines = record { text = is_text ∙ lines.text; fits = lines.fits; counted = counted ∙ lines.counted }

-- the number of entries, the end of its line, and the entries' lines
pub listed : (named numbered ended all text : List ℕ) (count : ℕ) (es : List (Key × Kept)) → numbered ≡ named ++ decimal count → ended ≡ numbered ++ 10 ∷ [] → all ≡ ended ++ text
    → text ≡ flat_map entry_text es → count ≡ length es → all ≡ named ++ counted_text es
listed named numbered ended all text count es is_numbered is_ended is_all is_text is_count =
    is_all
    ∙ ((λ i. ((is_ended ∙ ap (λ (u : List ℕ). u ++ 10 ∷ []) is_numbered) i) ++ is_text i)
    ∙ (ap (λ (m : ℕ). ((named ++ decimal m) ++ 10 ∷ []) ++ flat_map entry_text es) is_count
    ∙ (ap (λ (u : List ℕ). u ++ flat_map entry_text es) (append_assoc named (decimal (length es)) (10 ∷ []))
    ∙ append_assoc named (decimal (length es) ++ 10 ∷ []) (flat_map entry_text es))))

-- lines behind lines
pub more_lines : (s : StampedState) (n : ℕ) (xs ys : List (Key × Kept)) (before mid after : List ℕ) (count some more : ℕ) → HasLines s n xs before mid count some
    → HasLines s n ys mid after some more → HasLines s n (xs ++ ys) before after count more
more_lines s n xs ys before mid after count some more first then =
    let both : rows_above s n (xs ++ ys) ≡ rows_above s n xs ++ rows_above s n ys = filter-append (above s n) xs ys in
    record {
      text =
          then.text ∙ (ap (λ (u : List ℕ). u ++ flat_map entry_text (rows_above s n ys)) first.text
          ∙ (append_assoc before (flat_map entry_text (rows_above s n xs)) (flat_map entry_text (rows_above s n ys))
          ∙ ap (λ (u : List ℕ). before ++ u) (sym (flat_map-append entry_text (rows_above s n xs) (rows_above s n ys))
          ∙ ap (λ (es : List (Key × Kept)). flat_map entry_text es) (sym both))));
      fits = subst (All IsEntry) (sym both) (All-append IsEntry (rows_above s n xs) (rows_above s n ys) first.fits then.fits);
      counted =
          then.counted ∙ (ap (λ (m : ℕ). m + length (rows_above s n ys)) first.counted
          ∙ (add_assoc count (length (rows_above s n xs)) (length (rows_above s n ys))
          ∙ ap (λ (m : ℕ). count + m) (sym (length-append (rows_above s n xs) (rows_above s n ys)) ∙ ap (λ (es : List (Key × Kept)). length es) (sym both))));
    }
  where
    add_assoc : (a b c : ℕ) → (a + b) + c ≡ a + (b + c)
    add_assoc a b c = omega arith

-- a row's lines, or none
pub row_lines : (s : StampedState) (n : ℕ) (e : Key × Kept) (before after : List ℕ) (count more : ℕ) → above s n e ≡ true → after ≡ before ++ entry_text e → IsEntry e → more ≡ count + 1
    → HasLines s n (e ∷ []) before after count more
row_lines s n e before after count more passes text fits counted =
    let one : rows_above s n (e ∷ []) ≡ e ∷ [] = ap (λ (b : Bool). cond b (e ∷ []) []) passes in
    record {
      text = text ∙ ap (λ (u : List ℕ). before ++ u) (sym (append-nil (entry_text e)) ∙ ap (λ (es : List (Key × Kept)). flat_map entry_text es) (sym one));
      fits = subst (All IsEntry) (sym one) (All-one e fits);
      counted = counted ∙ ap (λ (es : List (Key × Kept)). count + length es) (sym one);
    }
  where
    All-one : (e : Key × Kept) → IsEntry e → All IsEntry (e ∷ [])
    All-one e is = All-push IsEntry [] e (All-nil IsEntry) is

pub row_without_lines : (s : StampedState) (n : ℕ) (e : Key × Kept) (before after : List ℕ) (count more : ℕ) → above s n e ≡ false → after ≡ before → more ≡ count → HasLines s n (e ∷ []) before after count more
row_without_lines s n e before after count more fails text counted =
    let none : rows_above s n (e ∷ []) ≡ [] = ap (λ (b : Bool). cond b (e ∷ []) []) fails in
    record {
      text = text ∙ (sym (append-nil before) ∙ ap (λ (es : List (Key × Kept)). before ++ flat_map entry_text es) (sym none));
      fits = subst (All IsEntry) (sym none) (All-nil IsEntry);
      counted = counted ∙ (add_none count ∙ ap (λ (es : List (Key × Kept)). count + length es) (sym none));
    }
  where
    add_none : (m : ℕ) → m ≡ m + 0
    add_none m = omega arith

module _ (s : StampedState) (n : ℕ) (rows front rest : List (Key × Kept)) (text : List ℕ) (count : ℕ) (parts : rows ≡ front ++ rest) (lines : HasLines s n front [] text 0 count) where
  -- where lines stand, some row is the last
  pub some_is_last : 0 < length text → ¬ IsLast None front
  some_is_last some none =
      let empty : text ≡ [] = lines.text ∙ ap (λ (es : List (Key × Kept)). flat_map entry_text (rows_above s n es)) none in
      let less : 0 < 0 = subst (λ (t : List ℕ). 0 < length t) empty some in
      omega (arith, less)

  pub filled_up_to : (p : Place) → EndsWith (key_of p) front → IsFilled s n rows (Some p) text count
  filled_up_to p ends = record { front = front; rest = rest; parts = parts; lines = lines; cut = ends }

pub filled_with_all : (s : StampedState) (n : ℕ) (rows front : List (Key × Kept)) (text : List ℕ) (count : ℕ) → front ≡ rows → HasLines s n front [] text 0 count → IsFilled s n rows None text count
filled_with_all s n rows front text count all lines = record { front = front; rest = []; parts = sym all ∙ sym (append-nil front); lines = lines; cut = refl }

-- ---- which entries these are

module _ (s : StampedState) (n : ℕ) (behind until : Option Place) where
  -- the entries of a part are those of the state that pass, in order
  pub all_within : filter (in_part s n behind until) (map.entries s.entries) ≡ map.entries (entries_within s n behind until)
  all_within =
      sym (same_entries key_cmp key_cmp_total key_cmp_exact (map.entries (entries_within s n behind until)) (where_key key_cmp passes (map.entries s.entries))
      (map.entries_sorted (entries_within s n behind until)) (is_sorted-where_key key_cmp passes (map.entries s.entries) (map.entries_sorted s.entries)) (λ q.
      sym (map.get-entries (entries_within s n behind until) q)
      ∙ (map.get-retain_keys s.entries passes q (alike q)
      ∙ (ap (λ (o : Option Kept). cond (passes q) o None) (map.get-entries s.entries q)
      ∙ sym (find-where_key key_cmp passes q (alike q) (map.entries s.entries))))))
    where
      passes : Key → Bool
      passes k = has_key s n behind until k

      alike : (q x : Key) → key_cmp q x ≡ Equal → passes x ≡ passes q
      alike q x tied = ap passes (sym (key_cmp_exact q x tied))

  second : (a b : Bool) → (a && b) ≡ true → b ≡ true
  second true b e = e
  second false b e = absurd (true≢false (sym e))

  once_more : (e : Key × Kept) (es : List (Key × Kept)) → filter (in_part s n behind until) (filter (above s n) es) ≡ filter (in_part s n behind until) es
      → (b : Bool) → above s n e ≡ b → (c : Bool) → in_part s n behind until e ≡ c
      → filter (in_part s n behind until) (cond b (e ∷ filter (above s n) es) (filter (above s n) es))
      ≡ cond (in_part s n behind until e) (e ∷ filter (in_part s n behind until) es) (filter (in_part s n behind until) es)
  once_more e es rest true is_a c is_c = ap (λ (l : List (Key × Kept)). cond (in_part s n behind until e) (e ∷ l) l) rest
  once_more e es rest false is_a true is_c = absurd (true≢false (sym (second (is_within behind until e.0) (above s n e) is_c) ∙ is_a))
  once_more e es rest false is_a false is_c = rest ∙ ap (λ (c : Bool). cond c (e ∷ filter (in_part s n behind until) es) (filter (in_part s n behind until) es)) (sym is_c)

  twice : (es : List (Key × Kept)) → filter (in_part s n behind until) (filter (above s n) es) ≡ filter (in_part s n behind until) es
  twice [] = refl
  twice (e ∷ es) = once_more e es (twice es) (above s n e) refl (in_part s n behind until e) refl

  -- and those of other entries, of which the same are above n
  pub within_of : (es : List (Key × Kept)) → rows_above s n es ≡ map.entries (entries_above s n) → map.entries (entries_within s n behind until) ≡ filter (in_part s n behind until) es
  within_of es same =
      sym all_within ∙ (sym (twice (map.entries s.entries))
      ∙ (ap (λ (l : List (Key × Kept)). filter (in_part s n behind until) l) (sym (same ∙ entries_filtered s n)) ∙ twice es))

once : {A : Type 0} (test : A → Bool) (es : List A) → filter test (filter test es) ≡ filter test es
once test [] = refl
once test (e ∷ es) = on (test e) refl (once test es)
  where
    on : (b : Bool) → test e ≡ b → filter test (filter test es) ≡ filter test es → filter test (cond b (e ∷ filter test es) (filter test es)) ≡ cond b (e ∷ filter test es) (filter test es)
    on true passes rest = ap (λ (b : Bool). cond b (e ∷ filter test (filter test es)) (filter test (filter test es))) passes ∙ ap (λ l. e ∷ l) rest
    on false fails rest = rest

-- all entries above n are above n
pub above_again : (s : StampedState) (n : ℕ) → rows_above s n (map.entries (entries_above s n)) ≡ map.entries (entries_above s n)
above_again s n = ap (λ (l : List (Key × Kept)). rows_above s n l) (entries_filtered s n) ∙ (once (above s n) (map.entries s.entries) ∙ sym (entries_filtered s n))

-- of two keys the one is past the other where the other comes behind it
turned : (r : Ordering) → is_gt (ordering_reverse r) ≡ is_lt r
turned Less = refl
turned Equal = refl
turned Greater = refl

pub past_is_behind : (p : Place) (k : Key) → is_past p k ≡ comes_behind (key_of p) k
past_is_behind p k = ap is_gt (key_cmp_total.antisymm k (key_of p)) ∙ turned (key_cmp (key_of p) k)

lesser : (r : Ordering) → T (is_lt r) → is_gt r ≡ false
lesser Less less = refl
lesser Equal less = refl
lesser Greater less = absurd less

below_at : (k : Key) (xs : List (Key × Kept)) (e : Key × Kept) (ys : List (Key × Kept)) → T (below_all key_cmp k (xs ++ e ∷ ys)) → T (is_lt (key_cmp k e.0))
below_at k [] e ys below = (two_parts (is_lt (key_cmp k e.0)) (below_all key_cmp k ys) below).0
below_at k (x ∷ xs) e ys below = below_at k xs e ys (two_parts (is_lt (key_cmp k x.0)) (below_all key_cmp k (xs ++ e ∷ ys)) below).1

-- what a test kept passes it
first_passes : {A : Type 0} (test : A → Bool) (d : A) (ds xs : List A) (e : A) (ys : List A) → ((zs : List A) → filter test ds ≡ zs ++ e ∷ ys → test e ≡ true)
    → (b : Bool) → test d ≡ b → cond b (d ∷ filter test ds) (filter test ds) ≡ xs ++ e ∷ ys → test e ≡ true
first_passes test d ds [] e ys others true passes same = let here : d ≡ e = cc in subst (λ a. test a ≡ true) here passes
first_passes test d ds (x ∷ xs) e ys others true passes same = let rest : filter test ds ≡ xs ++ e ∷ ys = cc in others xs rest
first_passes test d ds xs e ys others false fails same = others xs same

kept_passes : {A : Type 0} (test : A → Bool) (es xs : List A) (e : A) (ys : List A) → filter test es ≡ xs ++ e ∷ ys → test e ≡ true
kept_passes test [] [] e ys is = absurd cc
kept_passes test [] (x ∷ xs) e ys is = absurd cc
kept_passes test (d ∷ ds) xs e ys is = first_passes test d ds xs e ys (λ zs rest. kept_passes test ds zs e ys rest) (test d) refl is

module _ (s : StampedState) (n : ℕ) where
  -- up to the second place, and above n
  abbrev pub up_to_and_above : Option Place → Key × Kept → Bool
  up_to_and_above until e = is_until until e.0 && above s n e

  skip_one : (until : Option Place) (e : Key × Kept) (xs ys : List (Key × Kept)) (a b : Bool) → a ≡ b → xs ≡ filter (up_to_and_above until) ys
      → cond ((a && is_until until e.0) && above s n e) (e ∷ xs) xs ≡ filter (up_to_and_above until) (cond b (e ∷ ys) ys)
  skip_one until e xs ys true true same rest = ap (λ (l : List (Key × Kept)). cond (up_to_and_above until e) (e ∷ l) l) rest
  skip_one until e xs ys false false same rest = rest
  skip_one until e xs ys true false same rest = absurd (true≢false same)
  skip_one until e xs ys false true same rest = absurd (true≢false (sym same))

  -- of the rows behind the first place
  pub of_rows : (behind until : Option Place) (es : List (Key × Kept)) → filter (in_part s n behind until) es ≡ filter (up_to_and_above until) (rows_from behind es)
  of_rows None until es = refl
  of_rows (Some p) until [] = refl
  of_rows (Some p) until (e ∷ es) =
      skip_one until e (filter (in_part s n (Some p) until) es) (rows_behind (key_of p) es) (is_past p e.0) (comes_behind (key_of p) e.0) (past_is_behind p e.0) (of_rows (Some p) until es)

  -- none behind the second place
  none_behind : (p : Place) (es : List (Key × Kept)) → T (below_all key_cmp (key_of p) es) → filter (up_to_and_above (Some p)) es ≡ []
  none_behind p [] below = refl
  none_behind p (e ∷ es) below =
      let both = two_parts (is_lt (key_cmp (key_of p) e.0)) (below_all key_cmp (key_of p) es) below in
      let past : is_past p e.0 ≡ true = past_is_behind p e.0 ∙ is_true (is_lt (key_cmp (key_of p) e.0)) both.0 in
      (λ i. cond (not (past i) && above s n e) (e ∷ none_behind p es both.1 i) (none_behind p es both.1 i))

  -- and each up to it
  all_up_to : (p : Place) (kept : Kept) (before rest : List (Key × Kept)) → T (map.is_sorted key_cmp (before ++ (key_of p, kept) ∷ rest))
      → filter (up_to_and_above (Some p)) (before ++ (key_of p, kept) ∷ rest) ≡ rows_above s n (before ++ (key_of p, kept) ∷ [])
  all_up_to p kept [] rest rise =
      let both = two_parts (below_all key_cmp (key_of p) rest) (map.is_sorted key_cmp rest) rise in
      let here : is_past p (key_of p) ≡ false = ap is_gt (tied_itself key_cmp_total (key_of p)) in
      (λ i. cond (not (here i) && above s n (key_of p, kept)) ((key_of p, kept) ∷ none_behind p rest both.0 i) (none_behind p rest both.0 i))
  all_up_to p kept (e ∷ before) rest rise =
      let both = two_parts (below_all key_cmp e.0 (before ++ (key_of p, kept) ∷ rest)) (map.is_sorted key_cmp (before ++ (key_of p, kept) ∷ rest)) rise in
      let here : is_past p e.0 ≡ false = lesser (key_cmp e.0 (key_of p)) (below_at e.0 before (key_of p, kept) rest both.0) in
      let others = all_up_to p kept before rest both.1 in
      (λ i. cond (not (here i) && above s n e) (e ∷ others i) (others i))

  module _ (behind : Option Place) (es : List (Key × Kept)) (sorted : T (map.is_sorted key_cmp es)) where
    rise : (behind : Option Place) → T (map.is_sorted key_cmp (rows_from behind es))
    rise None = sorted
    rise (Some p) = is_sorted-where_key key_cmp (comes_behind (key_of p)) es sorted

    up_to_last : (until : Option Place) (front rest : List (Key × Kept)) → rows_from behind es ≡ front ++ rest → IsCut until front rest
        → filter (up_to_and_above until) (front ++ rest) ≡ rows_above s n front
    up_to_last None front rest parts none = ap (λ (l : List (Key × Kept)). rows_above s n l) (ap (λ (l : List (Key × Kept)). front ++ l) none ∙ append-nil front)
    up_to_last (Some p) front rest parts ends =
        let whole : front ++ rest ≡ ends.before ++ (key_of p, ends.kept) ∷ rest = ap (λ (l : List (Key × Kept)). l ++ rest) ends.is ∙ append_assoc ends.before ((key_of p, ends.kept) ∷ []) rest in
        ap (λ (l : List (Key × Kept)). filter (up_to_and_above (Some p)) l) whole
        ∙ (all_up_to p ends.kept ends.before rest (subst (λ (l : List (Key × Kept)). T (map.is_sorted key_cmp l)) (parts ∙ whole) (rise behind))
        ∙ ap (λ (l : List (Key × Kept)). rows_above s n l) (sym ends.is))

    -- the entries of a part are the rows that fill it
    pub filled_is_part : (until : Option Place) (text : List ℕ) (count : ℕ) → rows_above s n es ≡ map.entries (entries_above s n) → (filled : IsFilled s n (rows_from behind es) until text count)
        → map.entries (entries_within s n behind until) ≡ rows_above s n filled.front
    filled_is_part until text count same filled =
        within_of s n behind until es same
        ∙ (of_rows behind until es
        ∙ (ap (λ (l : List (Key × Kept)). filter (up_to_and_above until) l) filled.parts ∙ up_to_last until filled.front filled.rest filled.parts filled.cut))

    last_is_behind : (behind : Option Place) (k : Key) (front rest : List (Key × Kept)) → rows_from behind es ≡ front ++ rest → EndsWith k front → is_behind behind k ≡ true
    last_is_behind None k front rest parts ends = refl
    last_is_behind (Some p) k front rest parts ends =
        let whole : front ++ rest ≡ ends.before ++ (k, ends.kept) ∷ rest = ap (λ (l : List (Key × Kept)). l ++ rest) ends.is ∙ append_assoc ends.before ((k, ends.kept) ∷ []) rest in
        past_is_behind p k ∙ kept_passes (λ e. comes_behind (key_of p) e.0) es ends.before (k, ends.kept) rest (parts ∙ whole)

    -- and the next part begins further on
    pub cut_is_further : (until : Option Place) (front rest : List (Key × Kept)) → rows_from behind es ≡ front ++ rest → IsCut until front rest
        → IfSome until (λ p. is_behind behind (key_of p) ≡ true)
    cut_is_further None front rest parts cut = tt
    cut_is_further (Some p) front rest parts cut = last_is_behind behind (key_of p) front rest parts cut
