-- Mergers that get nothing but each other's deltas have a last merge.
use Rattle.std.proofs.Common.{◌≡◌, ◌⊎◌, inl, inr, ⊎_elim, ℕ, suc, ◌+◌, ◌≤◌, ◌<◌, Bool, true, false, cond, not, List, [], ◌∷◌, ◌++◌, length, fold}
use Rattle.std.proofs.Common.{Option, Some, None, IfSome, MatchOption, refl, sym, ap, subst, ◌∙◌, arith, Contains, All}
use Rattle.std.specs.Coded.{Coded}
use Rattle.std.specs.FinMap as map
use Rattle.std.proofs.lemmas.Bool.{true≢false}
use Rattle.std.proofs.lemmas.List.Elements.{All-contains, All-contains_itself, All-from_recursion, All-weaker, recursion_from_All}
use Rattle.std.proofs.lemmas.List.Elements.{Contains-append_cases, Contains-append_left, Contains-append_right, Contains-push, Contains-push_cases}
use Rattle.memento_sets.specs.Maps.{join_values}
use Rattle.harvest_lattice.specs.Lattice.{Entries, Key, Kept, AtMost, KeptAtMost, join, join_kept, coded_key, coded_kept}
use Rattle.harvest_lattice.specs.Knowledge.{Harvested, has_key, key_of, lat}
use Rattle.harvest_lattice.proofs.EntryOrder.{at_most_joined, at_most_least, at_most_left, at_most_refl, at_most_right, at_most_trans, get-join, joined_at_most}
use Rattle.harvest_lattice.proofs.EntryOrder.{joined_with_none, key_cmp_exact}
use Rattle.harvest_lattice.proofs.Knowledge.{get-lat_one, same_key, single}
use Rattle.harvest_lattice.proofs.KnowledgeShown.{all_at_most, each_at_most}
use Rattle.replica_exchange.specs.declared.cursor.Cursor.{Cursor}
use Rattle.replica_exchange.specs.Stamps.{StampedState, state_after, entries_above, is_above}
use Rattle.replica_exchange.specs.CursorRule.{delta_from, start_from}
use Rattle.replica_exchange.proofs.StampLemmas.{get-entries_above}
use Rattle.published_index.specs.Batches.{Batch, merges_of}
use Rattle.published_index.specs.Cursors.{MergerCall, Append, AppendDelta, MoveCursor, Publish, after_call, merges_with_pending, state_of, with_cursor, with_delta, with_publish}
use Rattle.published_index.specs.Exchanges.{published_by, Has, IsMadeOf, AreExchanged, filled}
use Rattle.published_index.specs.Stamping.{same_code}
use Rattle.published_index.specs.Views.{MergerView}
use Rattle.published_index.proofs.Folding.{merges-append}
use Rattle.published_index.proofs.Reaching.{joined, published, state_more}
use Rattle.published_index.proofs.Stamping.{same_code-itself, same_code-is}

-- ---- whether a state has as much as another

coded_entries : Coded Entries
coded_entries = map.code coded_key coded_kept

within_or_not : (x y : Entries) → AtMost x y ⊎ (¬ AtMost x y)
within_or_not x y = on (same_code (coded_entries.code (join x y)) (coded_entries.code y)) refl
  where
    on : (b : Bool) → same_code (coded_entries.code (join x y)) (coded_entries.code y) ≡ b → AtMost x y ⊎ (¬ AtMost x y)
    on true is = inl (at_most_joined x y (coded_entries.inj (join x y) y (same_code-is _ _ is)))
    on false is = inr (λ within.
        let same : same_code (coded_entries.code (join x y)) (coded_entries.code y) ≡ true =
        subst (λ (z : Entries). same_code (coded_entries.code z) (coded_entries.code y) ≡ true) (sym (joined_at_most x y within)) (same_code-itself (coded_entries.code y)) in
        true≢false (sym same ∙ is))

-- ---- which harvests a state doesn't have yet

abbrev unless : {A B : Type 0} → A ⊎ B → Harvested → List Harvested → List Harvested
unless (inl has) h rest = rest
unless (inr lacks) h rest = h ∷ rest

-- of these harvests those that the state doesn't have
abbrev missing : Entries → List Harvested → List Harvested
missing y [] = []
missing y (h ∷ hs) = unless (within_or_not (lat (h ∷ [])) y) h (missing y hs)

head_or_rest : (g h : Harvested) (gs : List Harvested) → Contains (g ∷ gs) h → (g ≡ h) ⊎ Contains gs h
head_or_rest g h gs at =
    ⊎_elim (λ (c : Contains (g ∷ []) h). ⊎_elim (λ (n : Contains [] h). absurd (omega (arith, n.1))) inl (Contains-push_cases [] g h c))
    inr (Contains-append_cases (g ∷ []) gs h at)

has_or_missing : (y : Entries) (hs : List Harvested) (h : Harvested) → Contains hs h → Has y h ⊎ Contains (missing y hs) h
has_or_missing y [] h at = absurd (omega (arith, at.1))
has_or_missing y (g ∷ gs) h at = on (within_or_not (lat (g ∷ [])) y) (head_or_rest g h gs at) (has_or_missing y gs h)
  where
    on : (w : Has y g ⊎ (¬ Has y g)) → (g ≡ h) ⊎ Contains gs h → (Contains gs h → Has y h ⊎ Contains (missing y gs) h) → Has y h ⊎ Contains (unless w g (missing y gs)) h
    on (inl has) (inl same) others = inl (subst (λ (k : Harvested). Has y k) same has)
    on (inl has) (inr rest) others = others rest
    on (inr lacks) (inl same) others = inr (subst (λ (k : Harvested). Contains (g ∷ missing y gs) k) same (Contains-append_left (g ∷ []) (missing y gs) g (Contains-push [] g)))
    on (inr lacks) (inr rest) others = ⊎_elim inl (λ (c : Contains (missing y gs) h). inr (Contains-append_right (g ∷ []) (missing y gs) h c)) (others rest)

-- they are fewer, or the state has none of these harvests
fewer_or_none : (y : Entries) (hs : List Harvested) → (length (missing y hs) < length hs) ⊎ ((length (missing y hs) ≤ length hs) × ((h : Harvested) → Contains hs h → ¬ Has y h))
fewer_or_none y [] = inr (omega arith, λ h at. absurd (omega (arith, at.1)))
fewer_or_none y (g ∷ gs) = on (within_or_not (lat (g ∷ [])) y) (fewer_or_none y gs)
  where
    on : (w : Has y g ⊎ (¬ Has y g)) → (length (missing y gs) < length gs) ⊎ ((length (missing y gs) ≤ length gs) × ((h : Harvested) → Contains gs h → ¬ Has y h))
        → (length (unless w g (missing y gs)) < length (g ∷ gs)) ⊎ ((length (unless w g (missing y gs)) ≤ length (g ∷ gs)) × ((h : Harvested) → Contains (g ∷ gs) h → ¬ Has y h))
    on (inl has) (inl fewer) = inl (omega (arith, fewer))
    on (inl has) (inr none) = let le = none.0 in inl (omega (arith, le))
    on (inr lacks) (inl fewer) = inl (omega (arith, fewer))
    on (inr lacks) (inr none) = let le = none.0 in inr (
      omega (arith, le),
      λ h at has. ⊎_elim (λ (same : g ≡ h). lacks (subst (λ (k : Harvested). Has y k) (sym same) has)) (λ (rest : Contains gs h). none.1 h rest has) (head_or_rest g h gs at),
    )

-- each of the harvests is had by the state, or is one of the others
abbrev Covers : List Harvested → Entries → List Harvested → Type 0
Covers harvests x others = (h : Harvested) → Contains harvests h → Has x h ⊎ Contains others h

has_more : (x y : Entries) (h : Harvested) → AtMost x y → Has x h → Has y h
has_more x y h more has = at_most_trans (lat (h ∷ [])) x y has more

module _ (harvests : List Harvested) where
  covers_more : (x y : Entries) (others : List Harvested) → AtMost x y → Covers harvests x others → Covers harvests y others
  covers_more x y others more cover h at = ⊎_elim (λ (has : Has x h). inl (has_more x y h more has)) inr (cover h at)

  covers_missing : (x y : Entries) (others : List Harvested) → AtMost x y → Covers harvests x others → Covers harvests y (missing y others)
  covers_missing x y others more cover h at = ⊎_elim (λ (has : Has x h). inl (has_more x y h more has)) (has_or_missing y others h) (cover h at)

  -- with a state that isn't known, fewer of them are missing
  fewer_missing : (z x y : Entries) (others : List Harvested) → IsMadeOf harvests z → ¬ AtMost z x → AtMost z y → Covers harvests x others → length (missing y others) < length others
  fewer_missing z x y others made unknown within cover = ⊎_elim (λ (fewer : length (missing y others) < length others). fewer)
      (λ (none : (length (missing y others) ≤ length others) × ((h : Harvested) → Contains others h → ¬ Has y h)).
      absurd (unknown (made x (λ h at has. ⊎_elim (λ (known : Has x h). known) (λ (waits : Contains others h). absurd (none.1 h waits (has_more z y h within has))) (cover h at)))))
      (fewer_or_none y others)

-- ---- batches that have a merge

one_more_filled : (list : List Batch) (batch : Batch) → length (filled (list ++ batch ∷ [])) ≤ length (filled list) + 1
one_more_filled [] [] = omega arith
one_more_filled [] (m ∷ ms) = omega arith
one_more_filled ([] ∷ bs) batch = one_more_filled bs batch
one_more_filled ((m ∷ ms) ∷ bs) batch = let more = one_more_filled bs batch in omega (arith, more)

nothing_filled : (list : List Batch) → length (filled (list ++ [] ∷ [])) ≡ length (filled list)
nothing_filled [] = refl
nothing_filled ([] ∷ bs) = nothing_filled bs
nothing_filled ((m ∷ ms) ∷ bs) = ap suc (nothing_filled bs)

-- ---- what is published

shows_all : (m : MergerView) → published_by (with_publish m) ≡ state_of m
shows_all m = ap state_after (merges-append m.published m.pending)

has_published : (m : MergerView) → AtMost (published_by m) (state_of m)
has_published m = state_more (merges_of m.published) m.pending

shows_more : (m : MergerView) → AtMost (published_by m) (published_by (with_publish m))
shows_more m = subst (λ (x : Entries). AtMost (published_by m) x) (sym (shows_all m)) (has_published m)

has_delta : (m : MergerView) (peer : ℕ) (d : _) → AtMost d.state (state_of (with_delta m peer d))
has_delta m peer d = subst (λ (x : Entries). AtMost d.state x) (sym (joined m peer d)) (at_most_right (state_of m) d.state)

module _ (harvests : List Harvested) where
  -- nothing is pending, or there is something that isn't published
  abbrev Waits : MergerView → Type 0
  Waits m = (m.pending ≡ []) ⊎ ((z : Entries) × IsMadeOf harvests z × (¬ AtMost z (published_by m)) × AtMost z (state_of m))

  pub few_batches : (m : MergerView) (calls : List MergerCall) (unknown : List Harvested) → Waits m → AreExchanged harvests m calls → Covers harvests (published_by m) unknown
      → length (filled (fold after_call m calls).published) ≤ length (filled m.published) + length unknown
  few_batches m [] unknown waits are cover = omega arith
  few_batches m (Append merge ∷ calls) unknown waits are cover = absurd are.0
  few_batches m (AppendDelta peer d ∷ calls) unknown waits are cover =
      few_batches (with_delta m peer d) calls unknown (inr (d.state, are.0.0, are.0.1, has_delta m peer d)) are.1 cover
  few_batches m (MoveCursor peer d ∷ calls) unknown waits are cover = few_batches (with_cursor m peer d) calls unknown waits are.1 cover
  few_batches m (Publish ∷ calls) unknown waits are cover = on waits (λ others covered. few_batches (with_publish m) calls others (inl refl) are.1 covered)
    where
      on : Waits m → ((others : List Harvested) → Covers harvests (published_by (with_publish m)) others
          → length (filled (fold after_call (with_publish m) calls).published) ≤ length (filled (m.published ++ m.pending ∷ [])) + length others)
          → length (filled (fold after_call (with_publish m) calls).published) ≤ length (filled m.published) + length unknown
      on (inl none) then =
          let same : length (filled (m.published ++ m.pending ∷ [])) ≡ length (filled m.published) =
          ap (λ (batch : Batch). length (filled (m.published ++ batch ∷ []))) none ∙ nothing_filled m.published in
          let rest = then unknown (covers_more harvests (published_by m) (published_by (with_publish m)) unknown (shows_more m) cover) in
          omega (arith, same, rest)
      on (inr news) then =
          let has : AtMost news.0 (published_by (with_publish m)) = subst (λ (x : Entries). AtMost news.0 x) (sym (shows_all m)) news.3 in
          let fewer = fewer_missing harvests news.0 (published_by m) (published_by (with_publish m)) unknown news.1 news.2 has cover in
          let more = one_more_filled m.published m.pending in
          let rest = then (missing (published_by (with_publish m)) unknown) (covers_missing harvests (published_by m) (published_by (with_publish m)) unknown (shows_more m) cover) in
          omega (arith, fewer, more, rest)

  -- what has all of the harvests takes no merge
  pub no_merge : (m : MergerView) (calls : List MergerCall) → AreExchanged harvests m calls → ((h : Harvested) → Contains harvests h → Has (published_by m) h)
      → merges_with_pending (fold after_call m calls) ≡ merges_with_pending m
  no_merge m [] are all = refl
  no_merge m (Append merge ∷ calls) are all = absurd are.0
  no_merge m (AppendDelta peer d ∷ calls) are all = absurd (are.0.1 (are.0.0 (published_by m) (λ h at has. all h at)))
  no_merge m (MoveCursor peer d ∷ calls) are all = no_merge (with_cursor m peer d) calls are.1 all
  no_merge m (Publish ∷ calls) are all =
      no_merge (with_publish m) calls are.1 (λ h at. has_more (published_by m) (published_by (with_publish m)) h (shows_more m) (all h at)) ∙ sym (published m)

  -- ---- what is made of harvests

  pub made_of_own : (own : List Harvested) → ((h : Harvested) → Contains own h → Contains harvests h) → IsMadeOf harvests (lat own)
  made_of_own own within y each =
      let had : All (Has (lat own)) own = All-from_recursion (Has (lat own)) own (each_at_most own (lat own) (at_most_refl (lat own))) in
      all_at_most own y (recursion_from_All (Has y) own (All-weaker (Contains own) (Has y) (λ h at. each h (within h at) (All-contains (Has (lat own)) own h had at)) own (All-contains_itself own)))

  made_joined : (x y : Entries) → IsMadeOf harvests x → IsMadeOf harvests y → IsMadeOf harvests (join x y)
  made_joined x y by_x by_y z each =
      at_most_least x y z (by_x z (λ h at has. each h at (has_more x (join x y) h (at_most_left x y) has)))
      (by_y z (λ h at has. each h at (has_more y (join x y) h (at_most_right x y) has)))

  pub stays_made : (m : MergerView) (calls : List MergerCall) → IsMadeOf harvests (published_by m) → IsMadeOf harvests (state_of m) → AreExchanged harvests m calls
      → IsMadeOf harvests (published_by (fold after_call m calls))
  stays_made m [] shown all are = shown
  stays_made m (Append merge ∷ calls) shown all are = absurd are.0
  stays_made m (AppendDelta peer d ∷ calls) shown all are =
      stays_made (with_delta m peer d) calls shown (subst (IsMadeOf harvests) (sym (joined m peer d)) (made_joined (state_of m) d.state all are.0.0)) are.1
  stays_made m (MoveCursor peer d ∷ calls) shown all are = stays_made (with_cursor m peer d) calls shown all are.1
  stays_made m (Publish ∷ calls) shown all are =
      stays_made (with_publish m) calls (subst (IsMadeOf harvests) (sym (shows_all m)) all) (subst (λ (l : List _). IsMadeOf harvests (state_after l)) (published m) all) are.1

-- ---- a delta of what is made of harvests

-- a harvest is had where its entry is
has_at : (h : Harvested) (x y : Entries) → map.get y (key_of h) ≡ map.get x (key_of h) → Has x h → Has y h
has_at h x y same has k = on (has_key k h) refl
  where
    on : (b : Bool) → has_key k h ≡ b → IfSome (map.get (lat (h ∷ [])) k) (λ a. MatchOption (map.get y k) ⊥ (λ e. KeptAtMost a e))
    on true is =
        let own : k ≡ key_of h = same_key k (key_of h) is in
        subst (λ (o : Option Kept). IfSome (map.get (lat (h ∷ [])) k) (λ a. MatchOption o ⊥ (λ e. KeptAtMost a e))) (ap (map.get x) own ∙ (sym same ∙ ap (map.get y) (sym own))) (has k)
    on false is = subst (λ (o : Option Kept). IfSome o (λ a. MatchOption (map.get y k) ⊥ (λ e. KeptAtMost a e))) (sym (get-lat_one h k ∙ ap (λ (b : Bool). cond b (Some (single h)) None) is)) tt

module _ (harvests : List Harvested) (s : StampedState) (n : ℕ) (made : IsMadeOf harvests s.entries) where
  abbrev is_told : Key → Bool
  is_told k = is_above n (map.get s.stamps k)

  -- the entries that aren't told of
  abbrev untold : Entries
  untold = map.retain_keys s.entries (λ k. not (is_told k))

  get-untold : (k : Key) → map.get untold k ≡ cond (not (is_told k)) (map.get s.entries k) None
  get-untold k = map.get-retain_keys s.entries (λ k. not (is_told k)) k (λ x tied. ap (λ (k : Key). not (is_told k)) (sym (key_cmp_exact k x tied)))

  module _ (y : Entries) (each : (h : Harvested) → Contains harvests h → Has (entries_above s n) h → Has y h) where
    either : (h : Harvested) → Contains harvests h → Has s.entries h → Has (join y untold) h
    either h at has = on (is_told (key_of h)) refl
      where
        on : (b : Bool) → is_told (key_of h) ≡ b → Has (join y untold) h
        on true is =
            has_more y (join y untold) h (at_most_left y untold)
            (each h at (has_at h s.entries (entries_above s n) (get-entries_above s n (key_of h) ∙ ap (λ (b : Bool). cond b (map.get s.entries (key_of h)) None) is) has))
        on false is =
            has_more untold (join y untold) h (at_most_right y untold)
            (has_at h s.entries untold (get-untold (key_of h) ∙ ap (λ (b : Bool). cond (not b) (map.get s.entries (key_of h)) None) is) has)

    told_within : AtMost (entries_above s n) y
    told_within k = on (is_told k) refl
      where
        whole : AtMost s.entries (join y untold)
        whole = made (join y untold) either

        on : (b : Bool) → is_told k ≡ b → IfSome (map.get (entries_above s n) k) (λ a. MatchOption (map.get y k) ⊥ (λ e. KeptAtMost a e))
        on true is =
            let own : map.get (entries_above s n) k ≡ map.get s.entries k = get-entries_above s n k ∙ ap (λ (b : Bool). cond b (map.get s.entries k) None) is in
            let gone : map.get untold k ≡ None = get-untold k ∙ ap (λ (b : Bool). cond (not b) (map.get s.entries k) None) is in
            let here : map.get (join y untold) k ≡ map.get y k = get-join y untold k ∙ (ap (join_values join_kept (map.get y k)) gone ∙ joined_with_none join_kept (map.get y k)) in
            subst (λ (o : Option Kept). IfSome o (λ a. MatchOption (map.get y k) ⊥ (λ e. KeptAtMost a e))) (sym own)
            (subst (λ (o : Option Kept). IfSome (map.get s.entries k) (λ a. MatchOption o ⊥ (λ e. KeptAtMost a e))) here (whole k))
        on false is =
            subst (λ (o : Option Kept). IfSome o (λ a. MatchOption (map.get y k) ⊥ (λ e. KeptAtMost a e)))
            (sym (get-entries_above s n k ∙ ap (λ (b : Bool). cond b (map.get s.entries k) None) is)) tt

pub told_is_made : (harvests : List Harvested) (s : StampedState) (held : Option Cursor) → IsMadeOf harvests s.entries → IsMadeOf harvests (delta_from s held).state
told_is_made harvests s held made y each = told_within harvests s (start_from s held) made y each
