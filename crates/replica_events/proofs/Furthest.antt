-- After a run, a cursor is held where its peer's deltas were brought, and tells where the furthest recent one ends.
use Rattle.std.proofs.Common.{◌≡◌, ◌↔◌, ℕ, ◌+◌, ◌<◌, ◌≤◌, ◌⊎◌, true, false, cond, arith, List, [], ◌∷◌, ◌++◌, Option, Some, None, Ok, refl, sym, ap, subst, ◌∙◌, append_assoc, append-nil, inl, inr}
use Rattle.std.specs.Prelude.{◌==◌, ◌&&◌, nat_lt}
use Rattle.std.specs.Ordering.{nat_cmp, eq_by_cmp, is_eq}
use Rattle.std.specs.Cmp.{nat_cmp_total, Equal-is, tied_itself}
use Rattle.std.specs.FinMap as map
use Rattle.std.proofs.Math.Nat.{le_antisymm}
use Rattle.std.proofs.lemmas.Bool.{eqb-true, eq-eqb, false≢true, and_parts, and_cases, ltb-true, ltb-false}
use Rattle.std.proofs.lemmas.Option.{none-some, same_Some}
use Rattle.harvest_lattice.specs.Knowledge.{adds}
use Rattle.memento_index.specs.declared.merge.Merge.TheVariants as merge
use Rattle.replica_exchange.specs.declared.cursor.Cursor.{Cursor}
use Rattle.replica_exchange.specs.declared.delta.Delta.{Delta}
use Rattle.replica_exchange.specs.CursorRule.{Held, end_of, cursor_after, taken_from}
use Rattle.replica_events.specs.declared.event.Event.{Event}
use Rattle.replica_events.specs.declared.event.Event.TheVariants.{Deliver, Restart}
use Rattle.replica_events.specs.declared.event.Said.TheVariants.{Joined, Restarted}
use Rattle.replica_events.specs.World.{World, Replica, Message, EventAnswer, Course, at_number, replica, message, with_replica, after_merge, after_join, new_replica, start, after_restart}
use Rattle.replica_events.specs.History.{Happened, History, NoRestart, history_of}
use Rattle.replica_events.specs.Incarnations.{WasSentIn}
use Rattle.replica_events.specs.Cursors.{WasBrought, IsRecent, IsFurthest}
use Rattle.replica_events.proofs.Numbers.{IsPlaced, replica_placed}
use Rattle.replica_events.proofs.Moments.{at_first}
use Rattle.replica_events.proofs.Histories.{IsRestart, Stood, stood, grows, not_empty, no_restart_yet, no_restart_push, no_restart_before, no_restart_last}
use Rattle.replica_events.proofs.Changes as change
use Rattle.replica_events.proofs.Changes.{IsIdle, idle_not_restarted, Change, happened_as, IsKept, course_keeps}
use Rattle.replica_events.proofs.Counted.{EndsAt, Counts, start_counts, counts_kept}

-- lists with one last element are the same before it
same_front : {X : Type 0} (xs ys : List X) (x : X) → xs ++ x ∷ [] ≡ ys ++ x ∷ [] → xs ≡ ys
same_front xs ys x is = from (stood xs ys [] x x is)
  where
    from : Stood xs x ys x [] → xs ≡ ys
    from (inl (front, _, _)) = front
    from (inr (rest, _, back)) = absurd (not_empty rest [] x back)

module _ (count i peer : ℕ) where
  -- ---- one event more

  module _ (history : History) (event : Event) (answer : EventAnswer) where
    -- the event is an accepted delivery of a message of the peer, whose delta ends there
    pub record Brings (end : Cursor) : Type 0 where
      pub message : ℕ
      pub event_is : event ≡ Deliver i message
      pub answer_is : answer ≡ Ok Joined
      pub sent : WasSentIn count history peer message end.incarnation end.number

    abbrev all : History
    all = history ++ (event, answer) ∷ []

    brought_still : (end : Cursor) (after : History) → WasBrought count history i peer end after → ¬ IsRestart event answer i → WasBrought count all i peer end (after ++ (event, answer) ∷ [])
    brought_still end after b other = record {
      before = b.before;
      message = b.message;
      sent = b.sent;
      delivered = grows history b.before after (Deliver i b.message, Ok Joined) (event, answer) b.delivered;
      no_restart = no_restart_push after event answer i b.no_restart other;
    }

    brought_now : (end : Cursor) → Brings end → WasBrought count all i peer end []
    brought_now end brings = record {
      before = history;
      message = brings.message;
      sent = brings.sent;
      delivered = λ j. history ++ (brings.event_is j, brings.answer_is j) ∷ [];
      no_restart = no_restart_yet i;
    }

    -- it was brought before, and the event ends nothing
    record WasBroughtBefore (end : Cursor) (after : History) : Type 0 where
      pub rest : History
      pub brought : WasBrought count history i peer end rest
      pub other : ¬ IsRestart event answer i
      pub back : after ≡ rest ++ (event, answer) ∷ []

    brought_after : (end : Cursor) (after : History) → WasBrought count all i peer end after → Brings end ⊎ WasBroughtBefore end after
    brought_after end after b = from (stood history b.before after (event, answer) (Deliver i b.message, Ok Joined) b.delivered)
      where
        from : Stood history (event, answer) b.before (Deliver i b.message, Ok Joined) after → Brings end ⊎ WasBroughtBefore end after
        from (inl (front, last, none)) = inl (record {
          message = b.message;
          event_is = ap (λ (x : Happened). x.0) last;
          answer_is = ap (λ (x : Happened). x.1) last;
          sent = subst (λ (l : History). WasSentIn count l peer b.message end.incarnation end.number) (sym front) b.sent;
        })
        from (inr (rest, front, back)) =
            let still : NoRestart (rest ++ (event, answer) ∷ []) i = subst (λ (l : History). NoRestart l i) back b.no_restart in
            inr (record {
              rest = rest;
              brought = record { before = b.before; message = b.message; sent = b.sent; delivered = front; no_restart = no_restart_before rest event answer i still };
              other = no_restart_last rest event answer i still;
              back = back;
            })

    recent_still : (end : Cursor) → IsRecent count history i peer end → ¬ IsRestart event answer i → ((now : Cursor) → Brings now → now.incarnation ≡ end.incarnation)
        → IsRecent count all i peer end
    recent_still end recent other same = record {
      after = recent.after ++ (event, answer) ∷ [];
      brought = brought_still end recent.after recent.brought other;
      same = λ later between rest brought is. since later between rest is (brought_after later rest brought);
    }
      where
        since : (later : Cursor) (between rest : History) → recent.after ++ (event, answer) ∷ [] ≡ between ++ rest → Brings later ⊎ WasBroughtBefore later rest → later.incarnation ≡ end.incarnation
        since later between rest is (inl brings) = same later brings
        since later between rest is (inr was) =
            let last : recent.after ++ (event, answer) ∷ [] ≡ (between ++ was.rest) ++ (event, answer) ∷ [] =
            is ∙ (ap (λ (l : History). between ++ l) was.back ∙ sym (append_assoc between was.rest ((event, answer) ∷ []))) in
            recent.same later between was.rest was.brought (same_front recent.after (between ++ was.rest) (event, answer) last)

    -- it was recent before, and what the event brings is of its incarnation
    record WasRecent (end : Cursor) : Type 0 where
      pub recent : IsRecent count history i peer end
      pub same : (now : Cursor) → Brings now → now.incarnation ≡ end.incarnation

    recent_after : (end : Cursor) → IsRecent count all i peer end → Brings end ⊎ WasRecent end
    recent_after end recent = from (brought_after end recent.after recent.brought)
      where
        from : Brings end ⊎ WasBroughtBefore end recent.after → Brings end ⊎ WasRecent end
        from (inl brings) = inl brings
        from (inr was) = inr (record {
          recent = record {
            after = was.rest;
            brought = was.brought;
            same = λ later between rest brought is.
                recent.same later between (rest ++ (event, answer) ∷ []) (brought_still later rest brought was.other)
                (was.back ∙ (ap (λ (l : History). l ++ (event, answer) ∷ []) is ∙ append_assoc between rest ((event, answer) ∷ [])));
          };
          same = λ now brings. recent.same now recent.after [] (brought_now now brings) (sym (append-nil recent.after));
        })

  -- ---- what a cursor says

  -- nothing is held where nothing was brought; a held cursor is the furthest, and whatever is recent is of its
  -- incarnation
  abbrev Says : History → Option Cursor → Type 0
  Says history None = (end : Cursor) (after : History) → ¬ WasBrought count history i peer end after
  Says history (Some c) = IsFurthest count history i peer c × ((end : Cursor) → IsRecent count history i peer end → end.incarnation ≡ c.incarnation)

  module _ (history : History) (event : Event) (answer : EventAnswer) where
    says_restarted : IsRestart event answer i → Says (all history event answer) None
    says_restarted is end after b = from (brought_after history event answer end after b)
      where
        from : Brings history event answer end ⊎ WasBroughtBefore history event answer end after → ⊥
        from (inl brings) = let delivered = brings.event_is in let restart = is.0 in cc
        from (inr before) = before.other is

    says_still : (o : Option Cursor) → Says history o → ¬ IsRestart event answer i → ((end : Cursor) → ¬ Brings history event answer end) → Says (all history event answer) o
    says_still None none other unbrought = λ end after b. from end after (brought_after history event answer end after b)
      where
        from : (end : Cursor) (after : History) → Brings history event answer end ⊎ WasBroughtBefore history event answer end after → ⊥
        from end after (inl brings) = unbrought end brings
        from end after (inr was) = none end was.rest was.brought
    says_still (Some c) (furthest, same) other unbrought = (
      record {
        recent = recent_still history event answer c furthest.recent other (λ now brings. absurd (unbrought now brings));
        furthest = λ end recent. furthest.furthest end (before end (recent_after history event answer end recent));
      },
      λ end recent. same end (before end (recent_after history event answer end recent)),
    )
      where
        before : (end : Cursor) → Brings history event answer end ⊎ WasRecent history event answer end → IsRecent count history i peer end
        before end (inl brings) = absurd (unbrought end brings)
        before end (inr was) = was.recent

    -- the event brings this end and no other
    module _ (end : Cursor) (brings : Brings history event answer end) (only : (other : Cursor) → Brings history event answer other → other ≡ end) where
      recent_now : IsRecent count (all history event answer) i peer end
      recent_now = record {
        after = [];
        brought = brought_now history event answer end brings;
        same = λ later between rest brought is. at later between rest is (brought_after history event answer later rest brought);
      }
        where
          at : (later : Cursor) (between rest : History) → [] ≡ between ++ rest
              → Brings history event answer later ⊎ WasBroughtBefore history event answer later rest → later.incarnation ≡ end.incarnation
          at later between rest is (inl also) = ap (λ (c : Cursor). c.incarnation) (only later also)
          at later between rest is (inr was) =
              absurd (not_empty (between ++ was.rest) [] (event, answer) (is ∙ (ap (λ (l : History). between ++ l) was.back ∙ sym (append_assoc between was.rest ((event, answer) ∷ [])))))

      -- the cursor is there, where nothing recent before it is further
      says_end : ((other : Cursor) → IsRecent count history i peer other → end.incarnation ≡ other.incarnation → other.number ≤ end.number) → Says (all history event answer) (Some end)
      says_end least = (
        record { recent = recent_now; furthest = λ other recent. within other (recent_after history event answer other recent) },
        λ other recent. incarnation other (recent_after history event answer other recent),
      )
        where
          within : (other : Cursor) → Brings history event answer other ⊎ WasRecent history event answer other → other.number ≤ end.number
          within other (inl also) = let same : other.number ≡ end.number = ap (λ (c : Cursor). c.number) (only other also) in omega (arith, same)
          within other (inr was) = least other was.recent (was.same end brings)

          incarnation : (other : Cursor) → Brings history event answer other ⊎ WasRecent history event answer other → other.incarnation ≡ end.incarnation
          incarnation other (inl also) = ap (λ (c : Cursor). c.incarnation) (only other also)
          incarnation other (inr was) = sym (was.same end brings)

      -- the cursor stays, since what is brought is of its incarnation and no further
      says_stays : (c : Cursor) → Says history (Some c) → ¬ IsRestart event answer i → c.incarnation ≡ end.incarnation → end.number ≤ c.number → Says (all history event answer) (Some c)
      says_stays c (furthest, same) no_restart is short = (
        record {
          recent = recent_still history event answer c furthest.recent no_restart (λ now also. of_cursor now (inl also));
          furthest = λ other recent. within other (recent_after history event answer other recent);
        },
        λ other recent. of_cursor other (recent_after history event answer other recent),
      )
        where
          of_cursor : (other : Cursor) → Brings history event answer other ⊎ WasRecent history event answer other → other.incarnation ≡ c.incarnation
          of_cursor other (inl also) = ap (λ (c : Cursor). c.incarnation) (only other also) ∙ sym is
          of_cursor other (inr was) = same other was.recent

          within : (other : Cursor) → Brings history event answer other ⊎ WasRecent history event answer other → other.number ≤ c.number
          within other (inl also) = let here : other.number ≡ end.number = ap (λ (c : Cursor). c.number) (only other also) in omega (arith, here, short)
          within other (inr was) = furthest.furthest other was.recent

    says_brought : (o : Option Cursor) (d : Delta) → Says history o → Brings history event answer (end_of d) → ((other : Cursor) → Brings history event answer other → other ≡ end_of d)
        → ¬ IsRestart event answer i → Says (all history event answer) (Some (cursor_after o d))
    says_brought None d none brings only other = says_end (end_of d) brings only (λ end recent is. absurd (none end recent.after recent.brought))
    says_brought (Some c) d says brings only other =
        elim ((c.incarnation == d.incarnation) && nat_lt d.end c.number) as
        (λ b. (c.incarnation == d.incarnation) && nat_lt d.end c.number ≡ b → Says (all history event answer) (Some (cond b c (end_of d)))) [
          | true ↦ λ is. stays (and_parts (c.incarnation == d.incarnation) (nat_lt d.end c.number) is)
          | false ↦ λ is. says_end (end_of d) brings only (λ end recent same. moves end recent same (and_cases (c.incarnation == d.incarnation) (nat_lt d.end c.number) is))
        ] refl
      where
        stays : ((c.incarnation == d.incarnation) ≡ true) × (nat_lt d.end c.number ≡ true) → Says (all history event answer) (Some c)
        stays (same, less) =
            let below : d.end < c.number = ltb-true d.end c.number less in
            says_stays (end_of d) brings only c says other (eqb-true c.incarnation d.incarnation same) (omega (arith, below))

        moves : (end : Cursor) → IsRecent count history i peer end → d.incarnation ≡ end.incarnation → ((c.incarnation == d.incarnation) ≡ false) ⊎ (nat_lt d.end c.number ≡ false) → end.number ≤ d.end
        moves end recent same (inl differs) =
            let is : c.incarnation ≡ d.incarnation = sym (says.1 end recent) ∙ sym same in
            absurd (false≢true (sym differs ∙ eq-eqb c.incarnation d.incarnation is))
        moves end recent same (inr not_less) =
            let far : c.number ≤ d.end = ltb-false d.end c.number not_less in
            let near : end.number ≤ c.number = says.0.furthest end recent in
            omega (arith, far, near)

  says_nothing : Says [] None
  says_nothing end after b = not_empty b.before after (Deliver i b.message, Ok Joined) b.delivered

  -- so the cursor that is held is the furthest, and there is one where something was brought
  furthest_held : (history : History) (o : Option Cursor) (c : Cursor) → Says history o → (o ≡ Some c) ↔ IsFurthest count history i peer c
  furthest_held history None c none = (λ is. absurd (none-some c is), λ furthest. absurd (none c furthest.recent.after furthest.recent.brought))
  furthest_held history (Some held) c says = (λ is. subst (IsFurthest count history i peer) (same_Some held c is) says.0, λ furthest. ap Some (same furthest))
    where
      same : IsFurthest count history i peer c → held ≡ c
      same furthest =
          let incarnation : held.incarnation ≡ c.incarnation = sym (says.1 c furthest.recent) in
          let number : held.number ≡ c.number = le_antisymm (furthest.furthest held says.0.recent) (says.0.furthest c furthest.recent) in
          λ j. record { incarnation = incarnation j; number = number j }

  nothing_held : (history : History) (o : Option Cursor) → Says history o → (o ≡ None) ↔ ((end : Cursor) (after : History) → ¬ WasBrought count history i peer end after)
  nothing_held history None none = (λ _. none, λ _. refl)
  nothing_held history (Some c) says = (λ is. absurd (none-some c (sym is)), λ none. absurd (none c says.0.recent.after says.0.recent.brought))

-- ---- runs

idle_not_joined : (event : Event) (answer : EventAnswer) → IsIdle event answer → answer ≡ Ok Joined → ⊥
idle_not_joined event answer (inl (why, answer_is)) other = cc
idle_not_joined event answer (inr (i, q, reply, event_is, answer_is)) other = cc

-- the cursors of every replica of the world are those of the history
abbrev Kept : ℕ → History → World → Type 0
Kept count history w = (i : ℕ) (r : Replica) → replica w i ≡ Some r → (peer : ℕ) → Says count i peer history (map.get r.cursors peer)

module _ (count : ℕ) (history : History) (w : World) (counts : Counts count history w) (kept : Kept count history w) where
  -- the event brings nothing to any replica
  abbrev IsUnbrought : Event → EventAnswer → Type 0
  IsUnbrought event answer = (j peer : ℕ) (end : Cursor) → ¬ Brings count j peer history event answer end

  -- the replicas are those that were
  same_replicas : (event : Event) (answer : EventAnswer) (new : World) → new.replicas ≡ w.replicas → ((j : ℕ) → ¬ IsRestart event answer j) → IsUnbrought event answer
      → Kept count (history ++ (event, answer) ∷ []) new
  same_replicas event answer new same other unbrought j s is peer =
      says_still count j peer history event answer (map.get s.cursors peer) (kept j s (subst (λ (rs : List Replica). at_number rs j ≡ Some s) same is) peer) (other j) (unbrought j peer)

  -- one replica has taken more, and keeps its cursors
  same_cursors : (event : Event) (answer : EventAnswer) (i : ℕ) (r next : Replica) → replica w i ≡ Some r → next.cursors ≡ r.cursors → ((j : ℕ) → ¬ IsRestart event answer j) → IsUnbrought event answer
      → Kept count (history ++ (event, answer) ∷ []) (with_replica w i next)
  same_cursors event answer i r next there cursors other unbrought j s is peer = at (replica_placed w i r next j s there is)
    where
      still : (t : Replica) → replica w j ≡ Some t → Says count j peer (history ++ (event, answer) ∷ []) (map.get t.cursors peer)
      still t found = says_still count j peer history event answer (map.get t.cursors peer) (kept j t found peer) (other j) (unbrought j peer)

      at : IsPlaced w i next j s → Says count j peer (history ++ (event, answer) ∷ []) (map.get s.cursors peer)
      at (inl (same, next_is)) =
          let of_r : map.get r.cursors peer ≡ map.get s.cursors peer = ap (λ (held : Held). map.get held peer) (sym cursors) ∙ ap (λ (r : Replica). map.get r.cursors peer) (sym next_is) in
          subst (Says count j peer (history ++ (event, answer) ∷ [])) of_r (still r (ap (replica w) same ∙ there))
      at (inr (elsewhere, found)) = still s found

  undelivered : (event : Event) (answer : EventAnswer) → ((j k : ℕ) → event ≡ Deliver j k → answer ≡ Ok Joined → ⊥) → IsUnbrought event answer
  undelivered event answer none j peer end brings = none j brings.message brings.event_is brings.answer_is

  joined_kept : (i k : ℕ) (r : Replica) (m : Message) → replica w i ≡ Some r → message w k ≡ Some m → Kept count (history ++ (Deliver i k, Ok Joined) ∷ []) (with_replica w i (after_join r m))
  joined_kept i k r m there found j s is peer = at (replica_placed w i r (after_join r m) j s there is)
    where
      after : History
      after = history ++ (Deliver i k, Ok Joined) ∷ []

      no_restart : (j : ℕ) → ¬ IsRestart (Deliver i k) (Ok Joined) j
      no_restart j restarts = let event_is = restarts.0 in cc

      brings : Brings count i m.sender history (Deliver i k) (Ok Joined) (end_of m.delta)
      brings = record { message = k; event_is = refl; answer_is = refl; sent = counts.messages.was_sent k m found }

      -- what is brought is of this message
      of_message : (j peer : ℕ) (end : Cursor) → Brings count j peer history (Deliver i k) (Ok Joined) end → EndsAt m peer end.incarnation end.number
      of_message j peer end b =
          let event_is = b.event_is in
          let number_is : b.message ≡ k = cc in
          let known = counts.messages.is_there peer b.message end.incarnation end.number b.sent in
          let same : known.0 ≡ m = same_Some known.0 m (sym known.1 ∙ (ap (message w) number_is ∙ found)) in
          subst (λ (m : Message). EndsAt m peer end.incarnation end.number) same known.2

      only : (end : Cursor) → Brings count i m.sender history (Deliver i k) (Ok Joined) end → end ≡ end_of m.delta
      only end b = let is = of_message i m.sender end b in λ j. record { incarnation = sym is.incarnation_is j; number = sym is.end_is j }

      here : (peer : ℕ) → Says count i peer after (map.get (taken_from r.cursors m.sender m.delta) peer)
      here peer =
          subst (Says count i peer after) (sym (map.get-insert nat_cmp_total r.cursors m.sender (cursor_after (map.get r.cursors m.sender) m.delta) peer))
          (elim (eq_by_cmp nat_cmp peer m.sender) as
          (λ b. eq_by_cmp nat_cmp peer m.sender ≡ b → Says count i peer after (cond b (Some (cursor_after (map.get r.cursors m.sender) m.delta)) (map.get r.cursors peer))) [
            | true ↦ λ same.
                subst (λ (p : ℕ). Says count i p after (Some (cursor_after (map.get r.cursors m.sender) m.delta)))
                (sym (map.nat_cmp-IsAntisymmetric peer m.sender ((Equal-is (nat_cmp peer m.sender)).0 same)))
                (says_brought count i m.sender history (Deliver i k) (Ok Joined) (map.get r.cursors m.sender) m.delta (kept i r there m.sender) brings only (no_restart i))
            | false ↦ λ differs.
                says_still count i peer history (Deliver i k) (Ok Joined) (map.get r.cursors peer) (kept i r there peer) (no_restart i)
                (λ end b. other differs (of_message i peer end b).sender_is)
          ] refl)
        where
          other : eq_by_cmp nat_cmp peer m.sender ≡ false → m.sender ≡ peer → ⊥
          other differs same = false≢true (sym differs ∙ (ap (λ (p : ℕ). eq_by_cmp nat_cmp peer p) same ∙ ap is_eq (tied_itself nat_cmp_total peer)))

      at : IsPlaced w i (after_join r m) j s → Says count j peer after (map.get s.cursors peer)
      at (inl (same, next_is)) =
          subst (λ (s : Replica). Says count j peer after (map.get s.cursors peer)) (sym next_is)
          (subst (λ (j : ℕ). Says count j peer after (map.get (taken_from r.cursors m.sender m.delta) peer)) (sym same) (here peer))
      at (inr (elsewhere, there)) =
          says_still count j peer history (Deliver i k) (Ok Joined) (map.get s.cursors peer) (kept j s there peer) (no_restart j)
          (λ end b. let event_is = b.event_is in elsewhere (cc))

  restarted_kept : (i : ℕ) (r : Replica) → replica w i ≡ Some r → Kept count (history ++ (Restart i, Ok Restarted) ∷ []) (after_restart w i)
  restarted_kept i r there j s is peer = at (replica_placed w i r (new_replica (w.last + 1)) j s there is)
    where
      at : IsPlaced w i (new_replica (w.last + 1)) j s → Says count j peer (history ++ (Restart i, Ok Restarted) ∷ []) (map.get s.cursors peer)
      at (inl (same, next_is)) =
          let none : map.get s.cursors peer ≡ None = ap (λ (s : Replica). map.get s.cursors peer) next_is ∙ map.get-empty nat_cmp peer in
          subst (Says count j peer (history ++ (Restart i, Ok Restarted) ∷ [])) (sym none)
          (says_restarted count j peer history (Restart i) (Ok Restarted) (ap (λ (i : ℕ). Restart i) (sym same), refl))
      at (inr (elsewhere, there)) =
          says_still count j peer history (Restart i) (Ok Restarted) (map.get s.cursors peer) (kept j s there peer) (λ restarts. let event_is = restarts.0 in elsewhere (cc))
          (undelivered (Restart i) (Ok Restarted) (λ j k event_is _. cc) j peer)

  change_kept : (event : Event) (answer : EventAnswer) (new : World) → Change w event answer new → Kept count (history ++ (event, answer) ∷ []) new
  change_kept event answer new (change.idle answered is) =
      same_replicas event answer new (ap (λ (w : World). w.replicas) is) (idle_not_restarted event answer answered)
      (undelivered event answer (λ j k _ answer_is. idle_not_joined event answer answered answer_is))
  change_kept event answer new (change.took i h r there event_is answer_is is) =
      subst (Kept count (history ++ (event, answer) ∷ [])) (sym is)
      (same_cursors event answer i r (after_merge r (h ∷ []) (merge.Harvest h)) there refl (λ j restarts. let other = restarts.1 in cc)
      (undelivered event answer (λ j k _ other. cc)))
  change_kept event answer new (change.received i bytes s r there text event_is answer_is is) =
      subst (Kept count (history ++ (event, answer) ∷ [])) (sym is)
      (same_cursors event answer i r (after_merge r (adds s) (merge.State s)) there refl (λ j restarts. let other = restarts.1 in cc)
      (undelivered event answer (λ j k other _. cc)))
  change_kept event answer new (change.joined i k r m there found fit event_is answer_is is) =
      happened_as (Kept count) history event (Deliver i k) answer (Ok Joined) new _ event_is answer_is is (joined_kept i k r m there found)
  change_kept event answer new (change.sent i r s cursor there stamped own sender answer_is is) =
      same_replicas event answer new (ap (λ (w : World). w.replicas) is) (λ j restarts. let other = restarts.1 in cc) (undelivered event answer (λ j k _ other. cc))
  change_kept event answer new (change.restarted i r there event_is answer_is is) =
      happened_as (Kept count) history event (Restart i) answer (Ok Restarted) new _ event_is answer_is is (restarted_kept i r there)

-- the world's numbers and cursors are those of the history
record Holds (count : ℕ) (history : History) (w : World) : Type 0 where
  pub counts : Counts count history w
  pub kept : Kept count history w

holds_kept : (count : ℕ) → IsKept (Holds count)
holds_kept count history w event answer new holds changed = record {
  counts = counts_kept count history w event answer new holds.counts changed;
  kept = change_kept count history w holds.counts holds.kept event answer new changed;
}

course_kept : {base : List ℕ} (course : Course base) → Kept course.count (history_of course) course.world
course_kept {base} course = (course_keeps (Holds course.count) (holds_kept course.count) course (record { counts = start_counts course.count; kept = at_start })).kept
  where
    at_start : Kept course.count [] (start course.count)
    at_start i r there peer =
        let none : map.get r.cursors peer ≡ None = ap (λ (r : Replica). map.get r.cursors peer) (at_first course.count i r there).0 ∙ map.get-empty nat_cmp peer in
        subst (Says course.count i peer []) (sym none) (says_nothing course.count i peer)

pub held_cursor : {base : List ℕ} (course : Course base) (i : ℕ) (r : Replica) → replica course.world i ≡ Some r → (peer : ℕ) (c : Cursor)
    → (map.get r.cursors peer ≡ Some c) ↔ IsFurthest course.count (history_of course) i peer c
held_cursor course i r there peer c = furthest_held course.count i peer (history_of course) (map.get r.cursors peer) c (course_kept course i r there peer)

pub no_cursor : {base : List ℕ} (course : Course base) (i : ℕ) (r : Replica) → replica course.world i ≡ Some r → (peer : ℕ)
    → (map.get r.cursors peer ≡ None) ↔ ((end : Cursor) (after : History) → ¬ WasBrought course.count (history_of course) i peer end after)
no_cursor course i r there peer = nothing_held course.count i peer (history_of course) (map.get r.cursors peer) (course_kept course i r there peer)
