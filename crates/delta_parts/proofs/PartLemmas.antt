-- What a part brings at the keys that it has, and what a walk has come to with it.
use Rattle.std.proofs.Common.{◌≡◌, ℕ, ◌≤◌, Bool, true, false, cond, ◌&&◌, ◌||◌, ◌==◌, List, length, take, take_all, Option, Some, None}
use Rattle.std.proofs.Common.{IfSome, refl, sym, ap, subst, ◌∙◌, inl, inr, ◌⊎◌, arith, true≢false}
use Rattle.std.specs.Prelude.{not, nat_lt, nat_le, min, MatchOption}
use Rattle.std.specs.Ordering.{is_gt}
use Rattle.std.specs.Cmp.{upto}
use Rattle.std.specs.FinMap as map
use Rattle.std.proofs.lemmas.Bool.Decides.{nat_tests}
use Rattle.std.proofs.lemmas.List.{length-take}
use Rattle.memento_index.specs.declared.merge.Merge.{Merge}
use Rattle.memento_sets.specs.Maps.{join_values}
use Rattle.harvest_lattice.specs.Lattice.{Key, Kept, Entries, AtMost, KeptAtMost, join, join_kept}
use Rattle.harvest_lattice.proofs.EntryOrder.{key_cmp_total, key_cmp_exact, get-join, at_most_refl, at_most_left, at_most_right, at_most_trans}
use Rattle.harvest_lattice.proofs.KnowledgeShown.{at_most_nil}
use Rattle.replica_exchange.specs.declared.cursor.Cursor.{Cursor}
use Rattle.replica_exchange.specs.declared.delta.Delta.{Delta}
use Rattle.replica_exchange.specs.Stamps.{StampedState, IsStamped, is_above, state_after, entries_above}
use Rattle.replica_exchange.specs.CursorRule.{start_from, fits, cursor_after}
use Rattle.replica_exchange.proofs.StampLemmas.{take_take, prefixes_at_most, above_suffices, get-entries_above}
use Rattle.delta_parts.specs.declared.place.Place.{Place}
use Rattle.delta_parts.specs.declared.part.Part.{Part}
use Rattle.delta_parts.specs.declared.walk.Walk.{Walk}
use Rattle.delta_parts.specs.PartRule.{key_of, is_past, is_behind, is_until, is_within as within, entries_within, is_near, goes_on, is_first, begins, fits_part, later, walk_at, walk_after, number_after, held_at, held_after, Incarnations, known_by, up_to, IsReached, IsWalked, AreWalked, IsPartOf}

-- ---- entries whose keys pass a test

get-where : (a : Entries) (p : Key → Bool) (k : Key) → map.get (map.retain_keys a p) k ≡ cond (p k) (map.get a k) None
get-where a p k = map.get-retain_keys a p k (λ x tied. ap p (sym (key_cmp_exact k x tied)))

passing : (a : Entries) (p : Key → Bool) (k : Key) → p k ≡ true → map.get (map.retain_keys a p) k ≡ map.get a k
passing a p k passes = get-where a p k ∙ ap (λ (b : Bool). cond b (map.get a k) None) passes

failing : (a : Entries) (p : Key → Bool) (k : Key) → p k ≡ false → map.get (map.retain_keys a p) k ≡ None
failing a p k fails = get-where a p k ∙ ap (λ (b : Bool). cond b (map.get a k) None) fails

-- what is at most what, at one key
abbrev Under : Option Kept → Option Kept → Type 0
Under o u = IfSome o (λ e. MatchOption u ⊥ (λ f. KeptAtMost e f))

-- what passes is at most y, if it is so at each key that passes
where_at_most : (a y : Entries) (p : Key → Bool) → ((k : Key) → p k ≡ true → Under (map.get a k) (map.get y k)) → AtMost (map.retain_keys a p) y
where_at_most a y p at k = on (p k) refl
  where
    on : (b : Bool) → p k ≡ b → Under (map.get (map.retain_keys a p) k) (map.get y k)
    on true passes = subst (λ (o : Option Kept). Under o (map.get y k)) (sym (passing a p k passes)) (at k passes)
    on false fails = subst (λ (o : Option Kept). Under o (map.get y k)) (sym (failing a p k fails)) tt

at_passing : (a y : Entries) (p : Key → Bool) → AtMost (map.retain_keys a p) y → (k : Key) → p k ≡ true → Under (map.get a k) (map.get y k)
at_passing a y p below k passes = subst (λ (o : Option Kept). Under o (map.get y k)) (passing a p k passes) (below k)

where_below : (a : Entries) (p : Key → Bool) → AtMost (map.retain_keys a p) a
where_below a p = where_at_most a a p (λ k _. at_most_refl a k)

-- of less, less passes
where_of_less : (a b y : Entries) (p : Key → Bool) → AtMost a b → AtMost (map.retain_keys b p) y → AtMost (map.retain_keys a p) y
where_of_less a b y p less below =
    at_most_trans (map.retain_keys a p) (map.retain_keys b p) y
    (where_at_most a (map.retain_keys b p) p (λ k passes. subst (Under (map.get a k)) (sym (passing b p k passes)) (less k))) below

-- what is at most y by two tests is so by a third that passes nothing else
where_either : (a y : Entries) (p q r : Key → Bool) → ((k : Key) → r k ≡ true → (p k ≡ true) ⊎ (q k ≡ true)) → AtMost (map.retain_keys a p) y → AtMost (map.retain_keys a q) y
    → AtMost (map.retain_keys a r) y
where_either a y p q r either by_p by_q = where_at_most a y r (λ k passes. pick k (either k passes))
  where
    pick : (k : Key) → (p k ≡ true) ⊎ (q k ≡ true) → Under (map.get a k) (map.get y k)
    pick k (inl passes) = at_passing a y p by_p k passes
    pick k (inr passes) = at_passing a y q by_q k passes

-- and all of it, if each key passes one of them
whole_either : (a y : Entries) (p q : Key → Bool) → ((k : Key) → (p k ≡ true) ⊎ (q k ≡ true)) → AtMost (map.retain_keys a p) y → AtMost (map.retain_keys a q) y → AtMost a y
whole_either a y p q either by_p by_q k = at_passing a y (λ _. true) (where_either a y p q (λ _. true) (λ k _. either k) by_p by_q) k refl

-- ---- what a part brings

module _ (ms : List Merge) (s : StampedState) (is : IsStamped ms s) (n : ℕ) (x : Entries) (below : AtMost (state_after (take n ms)) x) (behind until : Option Place) where
  abbrev brought : Entries
  brought = entries_within s n behind until

  get-brought : (k : Key) → map.get brought k ≡ cond (within behind until k && is_above n (map.get s.stamps k)) (map.get s.entries k) None
  get-brought k = get-where s.entries (λ k. within behind until k && is_above n (map.get s.stamps k)) k

  -- at its keys the state with the part has what it would have with all that the sender has
  as_whole : (k : Key) → within behind until k ≡ true → map.get (join x brought) k ≡ map.get (join x (state_after ms)) k
  as_whole k inside =
      get-join x brought k
      ∙ (ap (join_values join_kept (map.get x k)) (get-brought k
      ∙ (ap (λ (b : Bool). cond (b && is_above n (map.get s.stamps k)) (map.get s.entries k) None) inside ∙ sym (get-entries_above s n k)))
      ∙ (sym (get-join x (entries_above s n) k) ∙ ap (λ (y : Entries). map.get y k) (above_suffices ms s n x is below)))

  pub part_brings : AtMost (map.retain_keys (state_after ms) (within behind until)) (join x brought)
  part_brings = where_at_most (state_after ms) (join x brought) (within behind until) (λ k inside.
      subst (Under (map.get (state_after ms) k)) (sym (as_whole k inside)) (at_most_right x (state_after ms) k))

-- ---- a part of an incarnation's first merges

-- the first merges of a list are the first so many of it
take_counted : (ms : List Merge) (count : ℕ) → take (length (take count ms)) ms ≡ take count ms
take_counted ms count =
    let short : length (take count ms) ≤ count = let l = length-take count ms in omega (arith, l) in
    sym (take_take ms (length (take count ms)) count short) ∙ take_all (length (take count ms)) (take count ms) (omega arith)

start_within : (s : StampedState) (c : Option Cursor) → start_from s c ≤ s.number
start_within s None = omega arith
start_within s (Some c) = on ((c.incarnation == s.incarnation) && nat_le c.number s.number) refl
  where
    on : (b : Bool) → ((c.incarnation == s.incarnation) && nat_le c.number s.number) ≡ b → cond b c.number 0 ≤ s.number
    on true e = grind (arith, nat_tests)
    on false e = omega arith

module _ (merges : Incarnations) (p : Part) (of : IsPartOf merges p) (x : Entries) where
  abbrev ms : List Merge
  ms = merges p.delta.incarnation

  abbrev grown : Entries
  grown = join x p.delta.state

  abbrev s : StampedState
  s = of.stamped

  abbrev first : List Merge
  first = take of.count ms

  starts : p.delta.start ≡ start_from s of.cursor
  starts = ap (λ (q : Part). q.delta.start) of.is

  ends : p.delta.end ≡ s.number
  ends = ap (λ (q : Part). q.delta.end) of.is

  counted : take p.delta.end ms ≡ first
  counted = ap (λ (n : ℕ). take n ms) (ends ∙ of.made.number) ∙ take_counted ms of.count

  short : p.delta.start ≤ of.count
  short = let l = length-take of.count ms in let n = of.made.number in let w = start_within s of.cursor in let st = starts in omega (arith, l, n, w, st)

  -- to a state that has what the merges before its start made, it adds all that those before its end made, at its keys
  pub part_reaches : AtMost (known_by merges p.delta.incarnation p.delta.start) x
      → AtMost (map.retain_keys (known_by merges p.delta.incarnation p.delta.end) (within p.behind p.until)) grown
  part_reaches below =
      let before : AtMost (state_after (take (start_from s of.cursor) first)) x =
      subst (λ (n : ℕ). AtMost (state_after (take n first)) x) starts
      (subst (λ (l : List Merge). AtMost (state_after l) x) (sym (take_take ms p.delta.start of.count short)) below) in
      let brings = part_brings first s of.made (start_from s of.cursor) x before p.behind p.until in
      let state : p.delta.state ≡ entries_within s (start_from s of.cursor) p.behind p.until = ap (λ (q : Part). q.delta.state) of.is in
      subst (λ (l : List Merge). AtMost (map.retain_keys (state_after l) (within p.behind p.until)) grown) (sym counted)
      (subst (λ (y : Entries). AtMost (map.retain_keys (state_after first) (within p.behind p.until)) (join x y)) (sym state) brings)

  more : AtMost x grown
  more = at_most_left x p.delta.state

-- ---- what stays true

pub reached_more : (merges : Incarnations) (held : Option Cursor) (x y : Entries) → AtMost x y → IsReached merges held x → IsReached merges held y
reached_more merges None x y le reached = tt
reached_more merges (Some c) x y le reached = at_most_trans (known_by merges c.incarnation c.number) x y reached le

pub walked_more : (merges : Incarnations) (walk : Option Walk) (x y : Entries) → AtMost x y → AreWalked merges walk x → AreWalked merges walk y
walked_more merges None x y le walked = tt
walked_more merges (Some w) x y le walked = record {
  from_start = at_most_trans (known_by merges w.incarnation w.start) x y walked.from_start le;
  up_to_place = at_most_trans (up_to w.place (known_by merges w.incarnation w.number)) x y walked.up_to_place le;
}

known_less : (merges : Incarnations) (i n more : ℕ) → n ≤ more → AtMost (known_by merges i n) (known_by merges i more)
known_less merges i n more le = prefixes_at_most (merges i) n more le

-- what is taken as a delta starts at what the state has
has_start : (merges : Incarnations) (held : Option Cursor) (d : Delta) (x : Entries) → IsReached merges held x → fits held d ≡ true
    → AtMost (known_by merges d.incarnation d.start) x
has_start merges None d x reached fit =
    let zero : d.start ≡ 0 = grind (arith, nat_tests) in
    subst (λ (n : ℕ). AtMost (known_by merges d.incarnation n) x) (sym zero) (at_most_nil x)
has_start merges (Some c) d x reached fit = on (d.start == 0) refl
  where
    on : (b : Bool) → (d.start == 0) ≡ b → AtMost (known_by merges d.incarnation d.start) x
    on true is =
        let zero : d.start ≡ 0 = grind (arith, nat_tests) in
        subst (λ (n : ℕ). AtMost (known_by merges d.incarnation n) x) (sym zero) (at_most_nil x)
    on false is =
        let own : c.incarnation ≡ d.incarnation = grind (arith, nat_tests) in
        let le : d.start ≤ c.number = grind (arith, nat_tests) in
        at_most_trans (known_by merges d.incarnation d.start) (known_by merges d.incarnation c.number) x (known_less merges d.incarnation d.start c.number le)
        (subst (λ (i : ℕ). AtMost (known_by merges i c.number) x) own reached)

-- ---- keys and places

not_so : (c : Bool) → not c ≡ true → c ≡ false
not_so true e = absurd (true≢false (sym e))
not_so false e = refl

-- a key beyond the walk's place is behind where a near part begins
beyond_is_behind : (place : Place) (behind : Option Place) (k : Key) → is_near place behind ≡ true → is_past place k ≡ true → is_behind behind k ≡ true
beyond_is_behind place None k near past = refl
beyond_is_behind place (Some b) k near past = on (is_past b k) refl
  where
    on : (t : Bool) → is_past b k ≡ t → is_past b k ≡ true
    on true e = e
    on false e =
        let no : is_past place (key_of b) ≡ false = not_so (is_past place (key_of b)) near in
        let never : is_past place k ≡ false = upto key_cmp_total k (key_of b) (key_of place) e no in
        absurd (true≢false (sym past ∙ never))

module _ (place : Place) (behind : Option Place) (near : is_near place behind ≡ true) where
  -- up to the later of two places each key is one that the walk has, or one of the part
  up_to_later : (until : Place) (k : Key) → not (is_past (later place until) k) ≡ true → (not (is_past place k) ≡ true) ⊎ (within behind (Some until) k ≡ true)
  up_to_later until k inside = on (is_past place k) refl (is_past place (key_of until)) refl
    where
      on : (b : Bool) → is_past place k ≡ b → (c : Bool) → is_past place (key_of until) ≡ c → (not (is_past place k) ≡ true) ⊎ (within behind (Some until) k ≡ true)
      on false e c f = inl (ap not e)
      on true e true f =
          let front = beyond_is_behind place behind k near e in
          let there : not (is_past until k) ≡ true = subst (λ (b : Bool). not (is_past (cond b until place) k) ≡ true) f inside in
          inr (ap (λ (b : Bool). b && not (is_past until k)) front ∙ there)
      on true e false f =
          let there : not (is_past place k) ≡ true = subst (λ (b : Bool). not (is_past (cond b until place) k) ≡ true) f inside in
          inl there

  to_the_end : (k : Key) → (not (is_past place k) ≡ true) ⊎ (within behind None k ≡ true)
  to_the_end k = on (is_past place k) refl
    where
      on : (b : Bool) → is_past place k ≡ b → (not (is_past place k) ≡ true) ⊎ (within behind None k ≡ true)
      on false e = inl (ap not e)
      on true e = inr (ap (λ (b : Bool). b && true) (beyond_is_behind place behind k near e))

-- ---- a part more

module _ (merges : Incarnations) (p : Part) (of : IsPartOf merges p) (x : Entries) where
  abbrev inc : ℕ
  inc = p.delta.incarnation

  abbrev then : Entries
  then = join x p.delta.state

  -- a part that begins a walk
  module _ (first : is_first p.behind ≡ true) (start : AtMost (known_by merges inc p.delta.start) x) where
    none_before : (k : Key) → is_behind p.behind k ≡ true
    none_before k = at p.behind first
      where
        at : (o : Option Place) → is_first o ≡ true → is_behind o k ≡ true
        at None f = refl
        at (Some place) f = absurd (true≢false (sym f))

    reaches : AtMost (map.retain_keys (known_by merges inc p.delta.end) (within p.behind p.until)) then
    reaches = part_reaches merges p of x start

    begun_up_to : (until : Place) → p.until ≡ Some until → AtMost (up_to until (known_by merges inc p.delta.end)) then
    begun_up_to until is =
        where_either (known_by merges inc p.delta.end) then (within p.behind p.until) (within p.behind p.until) (λ k. not (is_past until k))
        (λ k passes. inl (ap (λ (b : Bool). b && is_until p.until k) (none_before k) ∙ (ap (λ (o : Option Place). is_until o k) is ∙ passes))) reaches reaches

    begun_to_end : p.until ≡ None → AtMost (known_by merges inc p.delta.end) then
    begun_to_end is =
        whole_either (known_by merges inc p.delta.end) then (within p.behind p.until) (within p.behind p.until)
        (λ k. inl (ap (λ (b : Bool). b && is_until p.until k) (none_before k) ∙ ap (λ (o : Option Place). is_until o k) is)) reaches reaches

  -- a part that goes on with one
  module _ (w : Walk) (walked : IsWalked merges w x) (goes : goes_on (Some w) p ≡ true) where
    own : w.incarnation ≡ inc
    own = grind (arith, nat_tests, goes)

    begins_before : p.delta.start ≤ w.start
    begins_before = grind (arith, nat_tests, goes)

    near : is_near w.place p.behind ≡ true
    near = (Rattle.std.specs.Cmp.second_so _ _ goes)

    abbrev number : ℕ
    number = min w.number p.delta.end

    goes_from : AtMost (known_by merges inc p.delta.start) x
    goes_from = at_most_trans (known_by merges inc p.delta.start) (known_by merges inc w.start) x (known_less merges inc p.delta.start w.start begins_before)
        (subst (λ (i : ℕ). AtMost (known_by merges i w.start) x) own walked.from_start)

    old_keys : AtMost (up_to w.place (known_by merges inc number)) then
    old_keys = at_most_trans (up_to w.place (known_by merges inc number)) x then
        (where_of_less (known_by merges inc number) (known_by merges inc w.number) x (λ k. not (is_past w.place k)) (known_less merges inc number w.number (omega arith))
        (subst (λ (i : ℕ). AtMost (up_to w.place (known_by merges i w.number)) x) own walked.up_to_place)) (at_most_left x p.delta.state)

    new_keys : AtMost (map.retain_keys (known_by merges inc number) (within p.behind p.until)) then
    new_keys = where_of_less (known_by merges inc number) (known_by merges inc p.delta.end) then (within p.behind p.until)
        (known_less merges inc number p.delta.end (omega arith)) (part_reaches merges p of x goes_from)

    gone_up_to : (until : Place) → p.until ≡ Some until → AtMost (up_to (later w.place until) (known_by merges w.incarnation number)) then
    gone_up_to until is =
        subst (λ (i : ℕ). AtMost (up_to (later w.place until) (known_by merges i number)) then) (sym own)
        (where_either (known_by merges inc number) then (λ k. not (is_past w.place k)) (within p.behind (Some until)) (λ k. not (is_past (later w.place until) k))
        (up_to_later w.place p.behind near until) old_keys
        (subst (λ (o : Option Place). AtMost (map.retain_keys (known_by merges inc number) (within p.behind o)) then) is new_keys))

    gone_to_end : p.until ≡ None → AtMost (known_by merges inc number) then
    gone_to_end is =
        whole_either (known_by merges inc number) then (λ k. not (is_past w.place k)) (within p.behind None) (to_the_end w.place p.behind near) old_keys
        (subst (λ (o : Option Place). AtMost (map.retain_keys (known_by merges inc number) (within p.behind o)) then) is new_keys)

  -- ---- both together

  either_or : (a b : Bool) → (a || b) ≡ true → a ≡ false → b ≡ true
  either_or true b e f = absurd (true≢false f)
  either_or false b e f = e

  parts_of : (a b : Bool) → (a && b) ≡ true → (a ≡ true) × (b ≡ true)
  parts_of true b e = (refl, e)
  parts_of false b e = absurd (true≢false (sym e))

  module _ (held : Option Cursor) (reached : IsReached merges held x) where
    new_walk : (fit : begins held p ≡ true) (until : Place) → p.until ≡ Some until
        → IsWalked merges (record { incarnation = inc; start = p.delta.start; number = p.delta.end; place = until }) then
    new_walk fit until is =
        let both = parts_of (is_first p.behind) (fits held p.delta) fit in
        let start = has_start merges held p.delta x reached both.1 in
        record {
          from_start = at_most_trans (known_by merges inc p.delta.start) x then start (at_most_left x p.delta.state);
          up_to_place = begun_up_to both.0 start until is;
        }

    pub walk_more : (walk : Option Walk) → AreWalked merges walk x → fits_part held walk p ≡ true → AreWalked merges (walk_after walk p) then
    walk_more walk walked fit = at p.until refl walk walked fit
      where
        at : (o : Option Place) → p.until ≡ o → (walk : Option Walk) → AreWalked merges walk x → fits_part held walk p ≡ true → AreWalked merges (walk_at walk p o) then
        at None is walk walked fit = tt
        at (Some until) is None walked fit = new_walk fit until is
        at (Some until) is (Some w) walked fit = on (goes_on (Some w) p) refl
          where
            on : (b : Bool) → goes_on (Some w) p ≡ b → IsWalked merges
                (cond b (record { incarnation = w.incarnation; start = w.start; number = min w.number p.delta.end; place = later w.place until })
                (record { incarnation = p.delta.incarnation; start = p.delta.start; number = p.delta.end; place = until })) then
            on true goes = record {
              from_start = at_most_trans (known_by merges w.incarnation w.start) x then walked.from_start (at_most_left x p.delta.state);
              up_to_place = gone_up_to w walked goes until is;
            }
            on false stays = new_walk (either_or (goes_on (Some w) p) (begins held p) fit stays) until is

    ending : ℕ → Delta
    ending n = record { incarnation = inc; start = p.delta.start; end = n; state = p.delta.state }

    moved : (n : ℕ) → AtMost (known_by merges inc n) then → (held : Option Cursor) → IsReached merges held x
        → IsReached merges (Some (cursor_after held (record { incarnation = inc; start = p.delta.start; end = n; state = p.delta.state }))) then
    moved n has None reached = has
    moved n has (Some c) reached = on ((c.incarnation == inc) && nat_lt n c.number)
      where
        on : (b : Bool) → IsReached merges (Some (cond b c (record { incarnation = inc; number = n }))) then
        on true = reached_more merges (Some c) x then (at_most_left x p.delta.state) reached
        on false = has

    at_end : (walk : Option Walk) → AreWalked merges walk x → fits_part held walk p ≡ true → p.until ≡ None → AtMost (known_by merges inc (number_after walk p)) then
    at_end None walked fit is =
        let both = parts_of (is_first p.behind) (fits held p.delta) fit in
        begun_to_end both.0 (has_start merges held p.delta x reached both.1) is
    at_end (Some w) walked fit is = on (goes_on (Some w) p) refl
      where
        on : (b : Bool) → goes_on (Some w) p ≡ b → AtMost (known_by merges inc (cond b (min w.number p.delta.end) p.delta.end)) then
        on true goes = gone_to_end w walked goes is
        on false stays =
            let both = parts_of (is_first p.behind) (fits held p.delta) (either_or (goes_on (Some w) p) (begins held p) fit stays) in
            begun_to_end both.0 (has_start merges held p.delta x reached both.1) is

    pub cursor_more : (walk : Option Walk) → AreWalked merges walk x → fits_part held walk p ≡ true → IsReached merges (held_after held walk p) then
    cursor_more walk walked fit = at p.until refl
      where
        at : (o : Option Place) → p.until ≡ o → IsReached merges (held_at held walk p o) then
        at None is = moved (number_after walk p) (at_end walk walked fit is) held reached
        at (Some until) is = reached_more merges held x then (at_most_left x p.delta.state) reached
