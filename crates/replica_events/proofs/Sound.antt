-- What holds of every world: replicas have the state of their merges, cursors are reached, and messages tell what their
-- senders had.
use Rattle.std.proofs.Common.{◌≡◌, ℕ, ◌+◌, ◌<◌, ◌≤◌, Bool, true, false, cond, eqb, ◌⊎◌, List, [], ◌∷◌, ◌++◌, length, take, take_all, Option, Some}
use Rattle.std.proofs.Common.{None, refl, sym, ap, subst, ◌∙◌, append-nil, inl, inr, arith}
use Rattle.std.specs.Prelude.{◌==◌, ◌&&◌, nat_le, nat_lt}
use Rattle.std.specs.Ordering.{nat_cmp, eq_by_cmp}
use Rattle.std.specs.Cmp.{nat_cmp_total}
use Rattle.std.specs.FinMap as map
use Rattle.std.proofs.lemmas.Bool.{eqb-true, eq-eqb, leb-true, and_parts, or_cases}
use Rattle.std.proofs.lemmas.Option.{none-some, same_Some}
use Rattle.std.proofs.lemmas.List.{take-append-le, length-append}
use Rattle.memento_index.specs.declared.merge.Merge.{Merge}
use Rattle.memento_index.specs.declared.merge.Merge.TheVariants as merge
use Rattle.harvest_lattice.specs.Lattice.{Entries, AtMost, join}
use Rattle.harvest_lattice.specs.Knowledge.{Harvested, lat, adds}
use Rattle.memento_index.specs.Merges.{adds_of}
use Rattle.harvest_lattice.proofs.EntryOrder.{at_most_left, at_most_right, at_most_refl, at_most_trans}
use Rattle.harvest_lattice.proofs.Knowledge.{lat-append, lat-adds}
use Rattle.replica_exchange.specs.declared.cursor.Cursor.{Cursor}
use Rattle.replica_exchange.specs.Stamps.{state_after, StampedState, IsStamped}
use Rattle.replica_exchange.specs.CursorRule.{Held, start_from, delta_from, reaches, fits, end_of, cursor_after, taken_from}
use Rattle.replica_exchange.proofs.StampLemmas.{state_push, prefixes_at_most, above_suffices}
use Rattle.replica_events.specs.World.{Knowledge, World, Replica, Message, at_number, replica, message, with_replica, with_message, after_merge, after_join, sent_by, new_replica, after_restart}
use Rattle.replica_events.proofs.Numbers.{IsPlaced, replica_placed, messages_stay, last_stays, Pushed, pushed}

-- the state of no harvests adds nothing
pub join_nil : (x : Entries) → join (lat []) x ≡ x
join_nil x = subst (λ (y : Entries). join (lat []) y ≡ y) (lat-adds x) (sym (lat-append [] (adds x)))

-- of each incarnation all the merges that were ever taken in it
abbrev pub Logs : Type 0
Logs = ℕ → List Merge

-- the state has at least what the incarnation's merges up to the cursor made
pub record Reaches (logs : Logs) (x : Entries) (c : Cursor) : Type 0 where
  pub within : c.number ≤ length (logs c.incarnation)
  pub reached : AtMost (state_after (take c.number (logs c.incarnation))) x

-- a message goes from a number of merges to another, at which its sender had taken what it had; and to what has at
-- least the first, its state adds what the sender had
pub record Tells (logs : Logs) (m : Message) : Type 0 where
  pub order : m.delta.start ≤ m.delta.end
  pub within : m.delta.end ≤ length (logs m.delta.incarnation)
  pub taken : lat m.taken ≡ state_after (take m.delta.end (logs m.delta.incarnation))
  pub suffices : (x : Entries) → AtMost (state_after (take m.delta.start (logs m.delta.incarnation))) x → join x m.delta.state ≡ join x (lat m.taken)

pub record Sound (logs : Logs) (w : World) : Type 0 where
  pub own : (i : ℕ) (r : Replica) → replica w i ≡ Some r → logs r.incarnation ≡ r.merges
  pub states : (i : ℕ) (r : Replica) → replica w i ≡ Some r → state_after r.merges ≡ lat r.taken
  pub born : (i : ℕ) (r : Replica) → replica w i ≡ Some r → r.incarnation ≤ w.last
  pub unborn : (number : ℕ) → w.last < number → logs number ≡ []
  pub apart : (i j : ℕ) (r s : Replica) → replica w i ≡ Some r → replica w j ≡ Some s → r.incarnation ≡ s.incarnation → i ≡ j
  pub cursors : (i : ℕ) (r : Replica) → replica w i ≡ Some r → (peer : ℕ) (c : Cursor) → map.get r.cursors peer ≡ Some c → Reaches logs (lat r.taken) c
  pub messages : (k : ℕ) (m : Message) → message w k ≡ Some m → Tells logs m

-- ---- logs that grow

-- each log begins with what it was
abbrev pub Grow : Logs → Logs → Type 0
Grow old new = (number : ℕ) → (rest : List Merge) × (new number ≡ old number ++ rest)

taken_still : (old new : List Merge) (rest : List Merge) (n : ℕ) → new ≡ old ++ rest → n ≤ length old → (take n new ≡ take n old) × (n ≤ length new)
taken_still old new rest n is within = (
  ap (take n) is ∙ take-append-le n old rest within,
  subst (λ (l : List Merge). n ≤ length l) (sym is) (long old rest within),
)
  where
    long : (xs ys : List Merge) → n ≤ length xs → n ≤ length (xs ++ ys)
    long xs ys le = omega (arith, length-append xs ys, le)

reaches_still : (old new : Logs) (x y : Entries) (c : Cursor) → Grow old new → AtMost x y → Reaches old x c → Reaches new y c
reaches_still old new x y c grow more reaches =
    let g = grow c.incarnation in
    let still = taken_still (old c.incarnation) (new c.incarnation) g.0 c.number g.1 reaches.within in
    record {
      within = still.1;
      reached = subst (λ (l : List Merge). AtMost (state_after l) y) (sym still.0) (at_most_trans (state_after (take c.number (old c.incarnation))) x y reaches.reached more);
    }

tells_still : (old new : Logs) (m : Message) → Grow old new → Tells old m → Tells new m
tells_still old new m grow tells =
    let g = grow m.delta.incarnation in
    let order = tells.order in
    let within = tells.within in
    let still = taken_still (old m.delta.incarnation) (new m.delta.incarnation) g.0 m.delta.end g.1 tells.within in
    let first = taken_still (old m.delta.incarnation) (new m.delta.incarnation) g.0 m.delta.start g.1 (omega (arith, order, within)) in
    record {
      order = tells.order;
      within = still.1;
      taken = tells.taken ∙ ap state_after (sym still.0);
      suffices = λ x below. tells.suffices x (subst (λ (l : List Merge). AtMost (state_after l) x) first.0 below);
    }

-- ---- one replica takes a merge

own_or : (a b : ℕ) (x y : List Merge) → ((a ≡ b) × (cond (eqb a b) x y ≡ x)) ⊎ ((¬ (a ≡ b)) × (cond (eqb a b) x y ≡ y))
own_or a b x y =
    elim (eqb a b) as (λ t. eqb a b ≡ t → ((a ≡ b) × (cond t x y ≡ x)) ⊎ ((¬ (a ≡ b)) × (cond t x y ≡ y))) [
      | true ↦ λ e. inl (eqb-true a b e, refl)
      | false ↦ λ e. inr (λ same. (let both : true ≡ false = sym (eq-eqb a b same) ∙ e in cc), refl)
    ] refl

-- the logs with these merges as the log of this incarnation
abbrev pub logged : Logs → ℕ → List Merge → Logs
logged logs incarnation merges number = cond (eqb number incarnation) merges (logs number)

-- the logs once a replica has taken one merge more
abbrev pub logs_with : Logs → Replica → Merge → Logs
logs_with logs r m = logged logs r.incarnation (r.merges ++ m ∷ [])

module _ (logs : Logs) (w : World) (sound : Sound logs w) (i : ℕ) (r : Replica) (there : replica w i ≡ Some r) (m : Merge) where
  abbrev more_logs : Logs
  more_logs = logs_with logs r m

  log_of : (number : ℕ) → ((number ≡ r.incarnation) × (more_logs number ≡ r.merges ++ m ∷ [])) ⊎ ((¬ (number ≡ r.incarnation)) × (more_logs number ≡ logs number))
  log_of number = own_or number r.incarnation (r.merges ++ m ∷ []) (logs number)

  pub logs_grow : Grow logs more_logs
  logs_grow number = at (log_of number)
    where
      at : ((number ≡ r.incarnation) × (more_logs number ≡ r.merges ++ m ∷ [])) ⊎ ((¬ (number ≡ r.incarnation)) × (more_logs number ≡ logs number))
          → (rest : List Merge) × (more_logs number ≡ logs number ++ rest)
      at (inl (is, log)) = (m ∷ [], log ∙ ap (λ (l : List Merge). l ++ m ∷ []) (sym (sound.own i r there) ∙ ap logs (sym is)))
      at (inr (other, log)) = ([], log ∙ sym (append-nil (logs number)))

  own_log : more_logs r.incarnation ≡ r.merges ++ m ∷ []
  own_log = at (log_of r.incarnation)
    where
      at : ((r.incarnation ≡ r.incarnation) × (more_logs r.incarnation ≡ r.merges ++ m ∷ []))
          ⊎ ((¬ (r.incarnation ≡ r.incarnation)) × (more_logs r.incarnation ≡ logs r.incarnation)) → more_logs r.incarnation ≡ r.merges ++ m ∷ []
      at (inl (is, log)) = log
      at (inr (other, log)) = absurd (other refl)

  other_log : (number : ℕ) → ¬ (number ≡ r.incarnation) → more_logs number ≡ logs number
  other_log number other = at (log_of number)
    where
      at : ((number ≡ r.incarnation) × (more_logs number ≡ r.merges ++ m ∷ [])) ⊎ ((¬ (number ≡ r.incarnation)) × (more_logs number ≡ logs number)) → more_logs number ≡ logs number
      at (inl (is, log)) = absurd (other is)
      at (inr (_, log)) = log

  -- the replica once it has taken the merge, by which it has taken these too
  module _ (more : Knowledge) (held : Held) (same : join (lat r.taken) (lat (adds_of m)) ≡ join (lat r.taken) (lat more)) where
    abbrev pub next_replica : Replica
    next_replica = record { taken = r.taken ++ more; incarnation = r.incarnation; merges = r.merges ++ m ∷ []; cursors = held }

    abbrev next_world : World
    next_world = with_replica w i next_replica

    state_is : state_after (r.merges ++ m ∷ []) ≡ lat (r.taken ++ more)
    state_is = state_push r.merges m ∙ (ap (λ (x : Entries). join x (lat (adds_of m))) (sound.states i r there) ∙ (same ∙ sym (lat-append r.taken more)))

    pub grown : AtMost (lat r.taken) (lat (r.taken ++ more))
    grown = subst (λ (x : Entries). AtMost (lat r.taken) x) (sym (lat-append r.taken more)) (at_most_left (lat r.taken) (lat more))

    pub absorbed : ((peer : ℕ) (c : Cursor) → map.get held peer ≡ Some c → Reaches more_logs (lat (r.taken ++ more)) c) → Sound more_logs next_world
    absorbed reach = record {
      own = λ j s is. own j s (replica_placed w i r next_replica j s there is);
      states = λ j s is. states j s (replica_placed w i r next_replica j s there is);
      born = λ j s is. subst (λ (l : ℕ). s.incarnation ≤ l) (sym (last_stays w i next_replica)) (born j s (replica_placed w i r next_replica j s there is));
      unborn = λ number late. unborn number (subst (λ (l : ℕ). l < number) (last_stays w i next_replica) late);
      apart = λ j k s t js kt same_incarnation. apart j k s t (replica_placed w i r next_replica j s there js) (replica_placed w i r next_replica k t there kt) same_incarnation;
      cursors = λ j s is. cursors j s (replica_placed w i r next_replica j s there is);
      messages = λ k n is. tells_still logs more_logs n logs_grow (sound.messages k n (subst (λ (ms : List Message). at_number ms k ≡ Some n) (messages_stay w i next_replica) is));
    }
      where
        own : (j : ℕ) (s : Replica) → IsPlaced w i next_replica j s → more_logs s.incarnation ≡ s.merges
        own j s (inl (_, is)) = subst (λ (s : Replica). more_logs s.incarnation ≡ s.merges) (sym is) own_log
        own j s (inr (other, is)) = other_log s.incarnation (λ same_number. other (sound.apart j i s r is there same_number)) ∙ sound.own j s is

        states : (j : ℕ) (s : Replica) → IsPlaced w i next_replica j s → state_after s.merges ≡ lat s.taken
        states j s (inl (_, is)) = subst (λ (s : Replica). state_after s.merges ≡ lat s.taken) (sym is) state_is
        states j s (inr (other, is)) = sound.states j s is

        born : (j : ℕ) (s : Replica) → IsPlaced w i next_replica j s → s.incarnation ≤ w.last
        born j s (inl (_, is)) = subst (λ (s : Replica). s.incarnation ≤ w.last) (sym is) (sound.born i r there)
        born j s (inr (other, is)) = sound.born j s is

        unborn : (number : ℕ) → w.last < number → more_logs number ≡ []
        unborn number late = other_log number (λ same_number. let early = sound.born i r there in omega (arith, early, late, same_number)) ∙ sound.unborn number late

        incarnation_of : (j : ℕ) (s : Replica) → IsPlaced w i next_replica j s → (was : Replica) × (replica w j ≡ Some was) × (was.incarnation ≡ s.incarnation)
        incarnation_of j s (inl (j_is, is)) = (r, ap (replica w) j_is ∙ there, sym (ap (λ (s : Replica). s.incarnation) is))
        incarnation_of j s (inr (other, is)) = (s, is, refl)

        apart : (j k : ℕ) (s t : Replica) → IsPlaced w i next_replica j s → IsPlaced w i next_replica k t → s.incarnation ≡ t.incarnation → j ≡ k
        apart j k s t js kt same_number =
            let x = incarnation_of j s js in
            let y = incarnation_of k t kt in
            sound.apart j k x.0 y.0 x.1 y.1 (x.2 ∙ (same_number ∙ sym y.2))

        cursors : (j : ℕ) (s : Replica) → IsPlaced w i next_replica j s → (peer : ℕ) (c : Cursor) → map.get s.cursors peer ≡ Some c → Reaches more_logs (lat s.taken) c
        cursors j s (inl (_, is)) = subst (λ (s : Replica). (peer : ℕ) (c : Cursor) → map.get s.cursors peer ≡ Some c → Reaches more_logs (lat s.taken) c) (sym is) reach
        cursors j s (inr (other, is)) = λ peer c held_is. reaches_still logs more_logs (lat s.taken) (lat s.taken) c logs_grow (at_most_refl (lat s.taken)) (sound.cursors j s is peer c held_is)

    -- cursors that were held are still reached
    pub still_reached : (peer : ℕ) (c : Cursor) → map.get r.cursors peer ≡ Some c → Reaches more_logs (lat (r.taken ++ more)) c
    still_reached peer c is = reaches_still logs more_logs (lat r.taken) (lat (r.taken ++ more)) c logs_grow grown (sound.cursors i r there peer c is)

-- ---- the events

pub sound_taken : (logs : Logs) (w : World) (i : ℕ) (r : Replica) (h : Harvested) → Sound logs w → replica w i ≡ Some r
    → Sound (logs_with logs r (merge.Harvest h)) (with_replica w i (after_merge r (h ∷ []) (merge.Harvest h)))
sound_taken logs w i r h sound there = absorbed logs w sound i r there (merge.Harvest h) (h ∷ []) r.cursors refl (still_reached logs w sound i r there (merge.Harvest h) (h ∷ []) r.cursors refl)

pub sound_received : (logs : Logs) (w : World) (i : ℕ) (r : Replica) (s : Entries) → Sound logs w → replica w i ≡ Some r
    → Sound (logs_with logs r (merge.State s)) (with_replica w i (after_merge r (adds s) (merge.State s)))
sound_received logs w i r s sound there = absorbed logs w sound i r there (merge.State s) (adds s) r.cursors refl (still_reached logs w sound i r there (merge.State s) (adds s) r.cursors refl)

-- what fits starts at what is known
pub fits_below : (logs : Logs) (w : World) (i : ℕ) (r : Replica) (m : Message) → Sound logs w → replica w i ≡ Some r → Tells logs m → fits (map.get r.cursors m.sender) m.delta ≡ true
    → AtMost (state_after (take m.delta.start (logs m.delta.incarnation))) (lat r.taken)
fits_below logs w i r m sound there tells fit = at (map.get r.cursors m.sender) refl (or_cases (m.delta.start == 0) (reaches (map.get r.cursors m.sender) m.delta) fit)
  where
    empty_below : AtMost (state_after []) (lat r.taken)
    empty_below = subst (λ (x : Entries). AtMost (lat []) x) (join_nil (lat r.taken)) (at_most_left (lat []) (lat r.taken))

    at : (o : Option Cursor) → map.get r.cursors m.sender ≡ o → ((m.delta.start == 0) ≡ true) ⊎ (reaches (map.get r.cursors m.sender) m.delta ≡ true)
        → AtMost (state_after (take m.delta.start (logs m.delta.incarnation))) (lat r.taken)
    at o is (inl zero_is) =
        let at_zero : m.delta.start ≡ 0 = eqb-true m.delta.start 0 zero_is in
        subst (λ (n : ℕ). AtMost (state_after (take n (logs m.delta.incarnation))) (lat r.taken)) (sym at_zero) empty_below
    at None is (inr reached) = absurd (let both : false ≡ true = sym (ap (λ o. reaches o m.delta) is) ∙ reached in cc)
    at (Some c) is (inr reached) =
        let parts = and_parts (c.incarnation == m.delta.incarnation) (nat_le m.delta.start c.number) (sym (ap (λ o. reaches o m.delta) is) ∙ reached) in
        let incarnation : c.incarnation ≡ m.delta.incarnation = eqb-true c.incarnation m.delta.incarnation parts.0 in
        let start : m.delta.start ≤ c.number = leb-true m.delta.start c.number parts.1 in
        let known = sound.cursors i r there m.sender c is in
        subst (λ (n : ℕ). AtMost (state_after (take m.delta.start (logs n))) (lat r.taken)) incarnation
        (at_most_trans (state_after (take m.delta.start (logs c.incarnation))) (state_after (take c.number (logs c.incarnation))) (lat r.taken)
        (prefixes_at_most (logs c.incarnation) m.delta.start c.number start) known.reached)

-- a delivery by a delta leads where the sender's whole set would have led
pub delta_is_whole : (logs : Logs) (w : World) (i : ℕ) (r : Replica) (m : Message) → Sound logs w → replica w i ≡ Some r → Tells logs m → fits (map.get r.cursors m.sender) m.delta ≡ true
    → join (lat r.taken) (lat (adds_of (merge.State m.delta.state))) ≡ join (lat r.taken) (lat m.taken)
delta_is_whole logs w i r m sound there tells fit =
    ap (join (lat r.taken)) (lat-adds m.delta.state) ∙ tells.suffices (lat r.taken) (fits_below logs w i r m sound there tells fit)

pub sound_joined : (logs : Logs) (w : World) (i k : ℕ) (r : Replica) (m : Message) → Sound logs w → replica w i ≡ Some r → message w k ≡ Some m → fits (map.get r.cursors m.sender) m.delta ≡ true
    → Sound (logs_with logs r (merge.State m.delta.state)) (with_replica w i (after_join r m))
sound_joined logs w i k r m sound there found fit =
    absorbed logs w sound i r there (merge.State m.delta.state) m.taken (taken_from r.cursors m.sender m.delta) same reach
  where
    tells : Tells logs m
    tells = sound.messages k m found

    same : join (lat r.taken) (lat (adds_of (merge.State m.delta.state))) ≡ join (lat r.taken) (lat m.taken)
    same = delta_is_whole logs w i r m sound there tells fit

    after : Logs
    after = logs_with logs r (merge.State m.delta.state)

    known : Entries
    known = lat (r.taken ++ m.taken)

    whole : AtMost (lat m.taken) known
    whole = subst (λ (x : Entries). AtMost (lat m.taken) x) (sym (lat-append r.taken m.taken)) (at_most_right (lat r.taken) (lat m.taken))

    at_end : Reaches after known (end_of m.delta)
    at_end = reaches_still logs after (lat m.taken) known (end_of m.delta) (logs_grow logs w sound i r there (merge.State m.delta.state)) whole (record {
      within = tells.within;
      reached = subst (λ (x : Entries). AtMost x (lat m.taken)) tells.taken (at_most_refl (lat m.taken));
    })

    moves : (o : Option Cursor) → map.get r.cursors m.sender ≡ o → Reaches after known (cursor_after o m.delta)
    moves None is = at_end
    moves (Some c) is =
        elim ((c.incarnation == m.delta.incarnation) && nat_lt m.delta.end c.number) as (λ b. Reaches after known (cond b c (end_of m.delta))) [
          | true ↦ still_reached logs w sound i r there (merge.State m.delta.state) m.taken (taken_from r.cursors m.sender m.delta) same m.sender c is
          | false ↦ at_end
        ]

    reach : (peer : ℕ) (c : Cursor) → map.get (taken_from r.cursors m.sender m.delta) peer ≡ Some c → Reaches after known c
    reach peer c is = at (eq_by_cmp nat_cmp peer m.sender) (sym (map.get-insert nat_cmp_total r.cursors m.sender (cursor_after (map.get r.cursors m.sender) m.delta) peer) ∙ is)
      where
        at : (b : Bool) → cond b (Some (cursor_after (map.get r.cursors m.sender) m.delta)) (map.get r.cursors peer) ≡ Some c → Reaches after known c
        at true here = subst (Reaches after known) (same_Some (cursor_after (map.get r.cursors m.sender) m.delta) c here) (moves (map.get r.cursors m.sender) refl)
        at false elsewhere = still_reached logs w sound i r there (merge.State m.delta.state) m.taken (taken_from r.cursors m.sender m.delta) same peer c elsewhere

-- a message tells what its sender has taken
pub start_within : (s : StampedState) (c : Option Cursor) → start_from s c ≤ s.number
start_within s None = omega arith
start_within s (Some c) =
    elim ((c.incarnation == s.incarnation) && nat_le c.number s.number) as (λ b. ((c.incarnation == s.incarnation) && nat_le c.number s.number) ≡ b → cond b c.number 0 ≤ s.number) [
      | true ↦ λ e. leb-true c.number s.number (and_parts (c.incarnation == s.incarnation) (nat_le c.number s.number) e).1
      | false ↦ λ e. omega arith
    ] refl

pub sound_sent : (logs : Logs) (w : World) (i : ℕ) (r : Replica) (s : StampedState) (cursor : Option Cursor) → Sound logs w → replica w i ≡ Some r
    → IsStamped r.merges s → s.incarnation ≡ r.incarnation
    → Sound logs (with_message w (sent_by i r (delta_from s cursor)))
sound_sent logs w i r s cursor sound there is incarnation = record {
  own = sound.own;
  states = sound.states;
  born = sound.born;
  unborn = sound.unborn;
  apart = sound.apart;
  cursors = sound.cursors;
  messages = λ k n at. tells k n (pushed w.messages m k n at);
}
  where
    m : Message
    m = sent_by i r (delta_from s cursor)

    log : logs s.incarnation ≡ r.merges
    log = ap logs incarnation ∙ sound.own i r there

    whole : take s.number (logs s.incarnation) ≡ r.merges
    whole = ap (take s.number) log ∙ take_all s.number r.merges (let n = is.number in omega (arith, n))

    now : Tells logs m
    now = record {
      order = start_within s cursor;
      within = let n = is.number in let l : length (logs s.incarnation) ≡ length r.merges = ap length log in omega (arith, n, l);
      taken = sym (sound.states i r there) ∙ ap state_after (sym whole);
      suffices = λ x below.
          above_suffices r.merges s (start_from s cursor) x is (subst (λ (l : List Merge). AtMost (state_after (take (start_from s cursor) l)) x) log below)
          ∙ ap (join x) (sound.states i r there);
    }

    tells : (k : ℕ) (n : Message) → Pushed w.messages m k n → Tells logs n
    tells k n (inl (k_is, is_last)) = subst (Tells logs) (sym is_last) now
    tells k n (inr (few, before)) = sound.messages k n before

-- a replica that restarts has taken nothing, in an incarnation of which nothing is known
pub sound_restarted : (logs : Logs) (w : World) (i : ℕ) (r : Replica) → Sound logs w → replica w i ≡ Some r → Sound logs (after_restart w i)
sound_restarted logs w i r sound there = record {
  own = λ j s is. own j s (replica_placed w i r new j s there is);
  states = λ j s is. states j s (replica_placed w i r new j s there is);
  born = λ j s is. born j s (replica_placed w i r new j s there is);
  unborn = λ number late. sound.unborn number (omega (arith, late));
  apart = λ j k s t js kt same. apart j k s t (replica_placed w i r new j s there js) (replica_placed w i r new k t there kt) same;
  cursors = λ j s is. cursors j s (replica_placed w i r new j s there is);
  messages = λ k n is. sound.messages k n (subst (λ (ms : List Message). at_number ms k ≡ Some n) (messages_stay w i new) is);
}
  where
    new : Replica
    new = new_replica (w.last + 1)

    own : (j : ℕ) (s : Replica) → IsPlaced w i new j s → logs s.incarnation ≡ s.merges
    own j s (inl (_, is)) = subst (λ (s : Replica). logs s.incarnation ≡ s.merges) (sym is) (sound.unborn (w.last + 1) (omega arith))
    own j s (inr (other, is)) = sound.own j s is

    states : (j : ℕ) (s : Replica) → IsPlaced w i new j s → state_after s.merges ≡ lat s.taken
    states j s (inl (_, is)) = subst (λ (s : Replica). state_after s.merges ≡ lat s.taken) (sym is) refl
    states j s (inr (other, is)) = sound.states j s is

    born : (j : ℕ) (s : Replica) → IsPlaced w i new j s → s.incarnation ≤ w.last + 1
    born j s (inl (_, is)) = let n : s.incarnation ≡ w.last + 1 = ap (λ (s : Replica). s.incarnation) is in omega (arith, n)
    born j s (inr (other, is)) = let n = sound.born j s is in omega (arith, n)

    apart : (j k : ℕ) (s t : Replica) → IsPlaced w i new j s → IsPlaced w i new k t → s.incarnation ≡ t.incarnation → j ≡ k
    apart j k s t (inl (j_is, _)) (inl (k_is, _)) same = j_is ∙ sym k_is
    apart j k s t (inl (j_is, is)) (inr (other, at)) same =
        let n : s.incarnation ≡ w.last + 1 = ap (λ (s : Replica). s.incarnation) is in
        let early = sound.born k t at in
        absurd (omega (arith, n, early, same))
    apart j k s t (inr (other, at)) (inl (k_is, is)) same =
        let n : t.incarnation ≡ w.last + 1 = ap (λ (s : Replica). s.incarnation) is in
        let early = sound.born j s at in
        absurd (omega (arith, n, early, same))
    apart j k s t (inr (_, at)) (inr (_, over)) same = sound.apart j k s t at over same

    cursors : (j : ℕ) (s : Replica) → IsPlaced w i new j s → (peer : ℕ) (c : Cursor) → map.get s.cursors peer ≡ Some c → Reaches logs (lat s.taken) c
    cursors j s (inl (_, is)) peer c held =
        let none : map.get s.cursors peer ≡ None = ap (λ (s : Replica). map.get s.cursors peer) is ∙ map.get-empty nat_cmp peer in
        absurd (none-some c (sym none ∙ held))
    cursors j s (inr (other, is)) peer c held = sound.cursors j s is peer c held
