-- After a run, incarnations and merges are those that the accepted events count.
use Rattle.std.proofs.Common.{◌≡◌, ℕ, ◌+◌, ◌≤◌, ◌⊎◌, true, false, cond, arith, List, [], ◌∷◌, ◌++◌, length, Option, Some, Ok, Contains, zip, refl, sym, ap, subst, ◌∙◌, inl, inr}
use Rattle.std.specs.Prelude.{Bool, ◌==◌, ◌&&◌}
use Rattle.std.specs.Result.{is_ok}
use Rattle.std.proofs.lemmas.Bool.{eqb-true, eq-eqb, false_from_ne_true}
use Rattle.std.proofs.lemmas.List.{length_push}
use Rattle.std.proofs.lemmas.List.Elements.{Contains-append_left, Contains-append_right, Contains-push}
use Rattle.std.proofs.lemmas.Option.{same_Some}
use Rattle.std.proofs.lemmas.List.Sums.{sum_by_push}
use Rattle.harvest_lattice.specs.Knowledge.{adds}
use Rattle.memento_index.specs.declared.merge.Merge.TheVariants as merge
use Rattle.replica_exchange.specs.declared.cursor.Cursor.{Cursor}
use Rattle.replica_exchange.specs.CursorRule.{delta_from}
use Rattle.replica_exchange.specs.Stamps.{StampedState, IsStamped}
use Rattle.replica_events.specs.declared.event.Event.{Event}
use Rattle.replica_events.specs.declared.event.Event.TheVariants.{Take, Send, SendFrom, Deliver, Receive, Restart, Ask}
use Rattle.replica_events.specs.declared.event.Said.TheVariants.{Taken, Sent, Joined, Restarted}
use Rattle.replica_events.specs.World.{World, Replica, Message, EventAnswer, Course, at_number, replica, message, with_replica, with_message}
use Rattle.replica_events.specs.World.{after_merge, after_join, sent_by, new_replica, start, after_restart}
use Rattle.replica_events.specs.History.{Happened, History, NoRestart, history_of, sender_of}
use Rattle.replica_events.specs.Cursors.{GoesOn}
use Rattle.replica_events.specs.Incarnations.{is_restart, is_merge_of, restarts, merges_of, IsIn, first, restarted, WasSentIn}
use Rattle.replica_events.proofs.Numbers.{IsPlaced, replica_placed, messages_stay, last_stays, Pushed, pushed, numbered_push, numbered_last}
use Rattle.replica_events.proofs.Moments.{at_first, no_message_at_first, course_good}
use Rattle.replica_events.proofs.Histories.{IsRestart, Stood, stood, grows, not_empty, no_restart_yet, no_restart_push}
use Rattle.replica_events.proofs.Changes as change
use Rattle.replica_events.proofs.Changes.{IsIdle, idle_not_restarted, Change, happened_as, IsKept, run_keeps, course_keeps}
use Rattle.replica_events.proofs.SentFirst.{idle_sends_nothing}

-- ---- one event more

-- what the event counts for
abbrev restart_of : Event → EventAnswer → ℕ
restart_of event answer = cond (is_restart event && is_ok answer) 1 0

abbrev merge_of : ℕ → Event → EventAnswer → ℕ
merge_of i event answer = cond (is_merge_of i event && is_ok answer) 1 0

restarts_push : (history : History) (event : Event) (answer : EventAnswer) → restarts (history ++ (event, answer) ∷ []) ≡ restarts history + restart_of event answer
restarts_push history event answer = sum_by_push (λ (x : Happened). cond (is_restart x.0 && is_ok x.1) 1 0) history (event, answer)

merges_push : (i : ℕ) (history : History) (event : Event) (answer : EventAnswer) → merges_of i (history ++ (event, answer) ∷ []) ≡ merges_of i history + merge_of i event answer
merges_push i history event answer = sum_by_push (λ (x : Happened). cond (is_merge_of i x.0 && is_ok x.1) 1 0) history (event, answer)

is_in_still : (count : ℕ) (history : History) (event : Event) (answer : EventAnswer) (i incarnation merges : ℕ) → IsIn count history i incarnation merges → ¬ IsRestart event answer i
    → IsIn count (history ++ (event, answer) ∷ []) i incarnation (merges + merge_of i event answer)
is_in_still count history event answer i incarnation merges (first none number so_often) other =
    first (no_restart_push history event answer i none other) number (ap (λ (n : ℕ). n + merge_of i event answer) so_often ∙ sym (merges_push i history event answer))
is_in_still count history event answer i incarnation merges (restarted before after is none number so_often) other =
    restarted before (after ++ (event, answer) ∷ []) (grows history before after (Restart i, Ok Restarted) (event, answer) is) (no_restart_push after event answer i none other) number
    (ap (λ (n : ℕ). n + merge_of i event answer) so_often ∙ sym (merges_push i after event answer))

is_in_new : (count : ℕ) (history : History) (i : ℕ) → IsIn count (history ++ (Restart i, Ok Restarted) ∷ []) i (count + restarts history + 1) 0
is_in_new count history i = restarted history [] refl (no_restart_yet i) refl refl

sent_still : (count : ℕ) (history : History) (event : Event) (answer : EventAnswer) (sender number incarnation merges : ℕ) → WasSentIn count history sender number incarnation merges
    → WasSentIn count (history ++ (event, answer) ∷ []) sender number incarnation merges
sent_still count history event answer sender number incarnation merges s = record {
  sending = s.sending;
  sends = s.sends;
  before = s.before;
  after = s.after ++ (event, answer) ∷ [];
  sent = grows history s.before s.after (s.sending, Ok (Sent number)) (event, answer) s.sent;
  was_in = s.was_in;
}

-- an event counts for the replica that merges by it, and for no other
counted : (i : ℕ) → cond {A = ℕ} ((i == i) && true) 1 0 ≡ 1
counted i = ap (λ (b : Bool). cond {A = ℕ} (b && true) 1 0) (eq-eqb i i refl)

not_counted : (i j : ℕ) → ¬ (j ≡ i) → cond {A = ℕ} ((i == j) && true) 1 0 ≡ 0
not_counted i j other = ap (λ (b : Bool). cond {A = ℕ} (b && true) 1 0) (false_from_ne_true (i == j) (λ same. other (sym (eqb-true i j same))))

refused_counts : (b : Bool) → cond {A = ℕ} (b && false) 1 0 ≡ 0
refused_counts true = refl
refused_counts false = refl

idle_restarts : (event : Event) (answer : EventAnswer) → IsIdle event answer → restart_of event answer ≡ 0
idle_restarts event answer (inl (why, answer_is)) = ap (restart_of event) answer_is ∙ refused_counts (is_restart event)
idle_restarts event answer (inr (i, q, reply, event_is, answer_is)) = ap (λ (e : Event). restart_of e answer) event_is

idle_merges : (event : Event) (answer : EventAnswer) → IsIdle event answer → (i : ℕ) → merge_of i event answer ≡ 0
idle_merges event answer (inl (why, answer_is)) i = ap (merge_of i event) answer_is ∙ refused_counts (is_merge_of i event)
idle_merges event answer (inr (j, q, reply, event_is, answer_is)) i = ap (λ (e : Event). merge_of i e answer) event_is

-- ---- one place

-- of two places of an element behind which it doesn't stand again, both are the same
last_place : {X : Type 0} (before front after back : List X) (x : X) → before ++ x ∷ after ≡ front ++ x ∷ back → ¬ Contains after x → ¬ Contains back x → (before ≡ front) × (after ≡ back)
last_place [] [] after back x is none other = (refl, cc)
last_place [] (y ∷ front) after back x is none other =
    let rest : after ≡ front ++ x ∷ back = cc in
    absurd (none (subst (λ (l : List _). Contains l x) (sym rest) (Contains-append_right front (x ∷ back) x (Contains-append_left (x ∷ []) back x (Contains-push [] x)))))
last_place (y ∷ before) [] after back x is none other =
    let rest : before ++ x ∷ after ≡ back = cc in
    absurd (other (subst (λ (l : List _). Contains l x) rest (Contains-append_right before (x ∷ after) x (Contains-append_left (x ∷ []) after x (Contains-push [] x)))))
last_place (y ∷ before) (z ∷ front) after back x is none other =
    let rest = last_place before front after back x (cc) none other in
    let head : y ≡ z = cc in
    (λ j. head j ∷ rest.0 j, rest.1)

restarted_there : (history before after : History) (i : ℕ) → history ≡ before ++ (Restart i, Ok Restarted) ∷ after → ¬ NoRestart history i
restarted_there history before after i is none =
    let x : Happened = (Restart i, Ok Restarted) in
    none (subst (λ (l : History). Contains l x) (sym is) (Contains-append_right before (x ∷ after) x (Contains-append_left (x ∷ []) after x (Contains-push [] x))))

-- so a replica is in one incarnation, and has merged in it so often and no oftener
one_number : (count : ℕ) (history : History) (i incarnation merges number so_often : ℕ) → IsIn count history i incarnation merges → IsIn count history i number so_often
    → (incarnation ≡ number) × (merges ≡ so_often)
one_number count history i incarnation merges number so_often (first none is counted) (first other same again) = (is ∙ sym same, counted ∙ sym again)
one_number count history i incarnation merges number so_often (first none is counted) (restarted before after at other same again) = absurd (restarted_there history before after i at none)
one_number count history i incarnation merges number so_often (restarted before after at none is counted) (first other same again) = absurd (restarted_there history before after i at other)
one_number count history i incarnation merges number so_often (restarted before after at none is counted) (restarted front back there other same again) =
    let place = last_place before front after back (Restart i, Ok Restarted) (sym at ∙ there) none other in (
      is ∙ (ap (λ (l : History). count + restarts l + 1) place.0 ∙ sym same),
      counted ∙ (ap (merges_of i) place.1 ∙ sym again),
    )

-- ---- messages

-- the message has this sender, and its delta ends there
pub record EndsAt (m : Message) (sender incarnation merges : ℕ) : Type 0 where
  pub sender_is : m.sender ≡ sender
  pub incarnation_is : m.delta.incarnation ≡ incarnation
  pub end_is : m.delta.end ≡ merges

-- each message was sent as it says, and each that was sent is there
pub record Sends (count : ℕ) (history : History) (messages : List Message) : Type 0 where
  pub was_sent : (k : ℕ) (m : Message) → at_number messages k ≡ Some m → WasSentIn count history m.sender k m.delta.incarnation m.delta.end
  pub is_there : (sender k incarnation merges : ℕ) → WasSentIn count history sender k incarnation merges → (m : Message) × (at_number messages k ≡ Some m) × EndsAt m sender incarnation merges

-- the message was sent before, or by this event
sent_before : (count : ℕ) (history : History) (event : Event) (answer : EventAnswer) (sender k incarnation merges : ℕ) → WasSentIn count (history ++ (event, answer) ∷ []) sender k incarnation merges
    → WasSentIn count history sender k incarnation merges ⊎ ((sender_of event ≡ Some sender) × (answer ≡ Ok (Sent k)) × IsIn count history sender incarnation merges)
sent_before count history event answer sender k incarnation merges s = from (stood history s.before s.after (event, answer) (s.sending, Ok (Sent k)) s.sent)
  where
    from : Stood history (event, answer) s.before (s.sending, Ok (Sent k)) s.after
        → WasSentIn count history sender k incarnation merges ⊎ ((sender_of event ≡ Some sender) × (answer ≡ Ok (Sent k)) × IsIn count history sender incarnation merges)
    from (inl (front, last, none)) = inr (
      ap (λ (x : Happened). sender_of x.0) last ∙ s.sends,
      ap (λ (x : Happened). x.1) last,
      subst (λ (l : History). IsIn count l sender incarnation merges) (sym front) s.was_in,
    )
    from (inr (rest, front, back)) = inl (record { sending = s.sending; sends = s.sends; before = s.before; after = rest; sent = front; was_in = s.was_in })

sends_still : (count : ℕ) (history : History) (event : Event) (answer : EventAnswer) (messages : List Message) → Sends count history messages → ((k : ℕ) → ¬ (answer ≡ Ok (Sent k)))
    → Sends count (history ++ (event, answer) ∷ []) messages
sends_still count history event answer messages sends unsent = record {
  was_sent = λ k m found. sent_still count history event answer m.sender k m.delta.incarnation m.delta.end (sends.was_sent k m found);
  is_there = λ sender k incarnation merges s. at sender k incarnation merges (sent_before count history event answer sender k incarnation merges s);
}
  where
    at : (sender k incarnation merges : ℕ) → WasSentIn count history sender k incarnation merges
        ⊎ ((sender_of event ≡ Some sender) × (answer ≡ Ok (Sent k)) × IsIn count history sender incarnation merges)
        → (m : Message) × (at_number messages k ≡ Some m) × EndsAt m sender incarnation merges
    at sender k incarnation merges (inl before) = sends.is_there sender k incarnation merges before
    at sender k incarnation merges (inr (_, answer_is, _)) = absurd (unsent k answer_is)

sends_more : (count : ℕ) (history : History) (event : Event) (messages : List Message) (i : ℕ) (m : Message) → Sends count history messages → sender_of event ≡ Some i → m.sender ≡ i
    → IsIn count history i m.delta.incarnation m.delta.end → Sends count (history ++ (event, Ok (Sent (length messages + 1))) ∷ []) (messages ++ m ∷ [])
sends_more count history event messages i m sends by_event sender is_in = record {
  was_sent = λ k n found. sent_or_last k n (pushed messages m k n found);
  is_there = λ sender k incarnation merges s. at sender k incarnation merges (sent_before count history event answer sender k incarnation merges s);
}
  where
    answer : EventAnswer
    answer = Ok (Sent (length messages + 1))

    all : History
    all = history ++ (event, answer) ∷ []

    now : WasSentIn count all i (length messages + 1) m.delta.incarnation m.delta.end
    now = record { sending = event; sends = by_event; before = history; after = []; sent = refl; was_in = is_in }

    sent_or_last : (k : ℕ) (n : Message) → Pushed messages m k n → WasSentIn count all n.sender k n.delta.incarnation n.delta.end
    sent_or_last k n (inl (k_is, is)) =
        subst (λ (n : Message). WasSentIn count all n.sender k n.delta.incarnation n.delta.end) (sym is)
        (subst (λ (k : ℕ). WasSentIn count all m.sender k m.delta.incarnation m.delta.end) (sym k_is)
        (subst (λ (j : ℕ). WasSentIn count all j (length messages + 1) m.delta.incarnation m.delta.end) (sym sender) now))
    sent_or_last k n (inr (few, found)) = sent_still count history event answer n.sender k n.delta.incarnation n.delta.end (sends.was_sent k n found)

    at : (sender k incarnation merges : ℕ) → WasSentIn count history sender k incarnation merges
        ⊎ ((sender_of event ≡ Some sender) × (answer ≡ Ok (Sent k)) × IsIn count history sender incarnation merges)
        → (n : Message) × (at_number (messages ++ m ∷ []) k ≡ Some n) × EndsAt n sender incarnation merges
    at j k incarnation merges (inl before) = let was = sends.is_there j k incarnation merges before in (was.0, numbered_push messages m k was.0 was.1, was.2)
    at j k incarnation merges (inr (by, answer_is, is)) =
        let k_is : length messages + 1 ≡ k = cc in
        let j_is : i ≡ j = same_Some i j (sym by_event ∙ by) in
        let same = one_number count history j m.delta.incarnation m.delta.end incarnation merges (subst (λ (j : ℕ). IsIn count history j m.delta.incarnation m.delta.end) j_is is_in) is in (
          m,
          subst (λ (k : ℕ). at_number (messages ++ m ∷ []) k ≡ Some m) k_is (numbered_last messages m),
          record { sender_is = sender ∙ j_is; incarnation_is = same.0; end_is = same.1 },
        )

-- ---- worlds

-- the world's numbers are those of the history
pub record Counts (count : ℕ) (history : History) (w : World) : Type 0 where
  pub last : w.last ≡ count + restarts history
  pub replicas : (i : ℕ) (r : Replica) → replica w i ≡ Some r → IsIn count history i r.incarnation (length r.merges)
  pub messages : Sends count history w.messages

module _ (count : ℕ) (history : History) (w : World) (counts : Counts count history w) where
  -- an event that is no restart, and by which each replica merges as often as it counts for
  steady : (event : Event) (answer : EventAnswer) (new : World) → new.last ≡ w.last → restart_of event answer ≡ 0 → ((i : ℕ) → ¬ IsRestart event answer i)
      → ((i : ℕ) (s : Replica) → replica new i ≡ Some s → (r : Replica) × (replica w i ≡ Some r) × (s.incarnation ≡ r.incarnation) × (length s.merges ≡ length r.merges + merge_of i event answer))
      → Sends count (history ++ (event, answer) ∷ []) new.messages → Counts count (history ++ (event, answer) ∷ []) new
  steady event answer new last none other replicas messages = record {
    last = let pushed_is = restarts_push history event answer in let was = counts.last in omega (arith, pushed_is, was, last, none);
    replicas = λ i s there.
        let was = replicas i s there in
        let still = is_in_still count history event answer i was.0.incarnation (length was.0.merges) (counts.replicas i was.0 was.1) (other i) in
        subst (λ (n : ℕ). IsIn count (history ++ (event, answer) ∷ []) i n (length s.merges)) (sym was.2)
        (subst (IsIn count (history ++ (event, answer) ∷ []) i was.0.incarnation) (sym was.3) still);
    messages = messages;
  }

  -- the event sends nothing, and the messages are those that were
  unsent : (event : Event) (answer : EventAnswer) (new : World) → new.messages ≡ w.messages → ((k : ℕ) → ¬ (answer ≡ Ok (Sent k))) → Sends count (history ++ (event, answer) ∷ []) new.messages
  unsent event answer new same none = subst (Sends count (history ++ (event, answer) ∷ [])) (sym same) (sends_still count history event answer w.messages counts.messages none)

  -- a replica merges once
  merges_once : (event : Event) (answer : EventAnswer) (i : ℕ) (r next : Replica) → replica w i ≡ Some r → next.incarnation ≡ r.incarnation → length next.merges ≡ length r.merges + 1
      → restart_of event answer ≡ 0 → ((j : ℕ) → ¬ IsRestart event answer j) → ((k : ℕ) → ¬ (answer ≡ Ok (Sent k)))
      → merge_of i event answer ≡ 1 → ((j : ℕ) → ¬ (j ≡ i) → merge_of j event answer ≡ 0) → Counts count (history ++ (event, answer) ∷ []) (with_replica w i next)
  merges_once event answer i r next there own more none no_restart no_message here elsewhere =
      steady event answer (with_replica w i next) (last_stays w i next) none no_restart
      (λ j s is. at j s (replica_placed w i r next j s there is))
      (unsent event answer (with_replica w i next) (messages_stay w i next) no_message)
    where
      at : (j : ℕ) (s : Replica) → IsPlaced w i next j s → (t : Replica) × (replica w j ≡ Some t) × (s.incarnation ≡ t.incarnation) × (length s.merges ≡ length t.merges + merge_of j event answer)
      at j s (inl (same, is)) =
          let here_too : merge_of j event answer ≡ 1 = ap (λ (j : ℕ). merge_of j event answer) same ∙ here in
          let merges : length s.merges ≡ length next.merges = ap (λ (s : Replica). length s.merges) is in
          (r, ap (replica w) same ∙ there, ap (λ (s : Replica). s.incarnation) is ∙ own, omega (arith, here_too, merges, more))
      at j s (inr (other, found)) = let none_here = elsewhere j other in (s, found, refl, omega (arith, none_here))

  -- an event by which no replica merges, and none restarts
  no_merge : (event : Event) (answer : EventAnswer) (new : World) → new.last ≡ w.last → new.replicas ≡ w.replicas → restart_of event answer ≡ 0 → ((j : ℕ) → ¬ IsRestart event answer j)
      → ((j : ℕ) → merge_of j event answer ≡ 0) → Sends count (history ++ (event, answer) ∷ []) new.messages
      → Counts count (history ++ (event, answer) ∷ []) new
  no_merge event answer new last replicas none no_restart no_merges messages =
      steady event answer new last none no_restart
      (λ j s is. let idle = no_merges j in (s, subst (λ (rs : List Replica). at_number rs j ≡ Some s) replicas is, refl, omega (arith, idle)))
      messages

  restarts_once : (i : ℕ) (r : Replica) → replica w i ≡ Some r → Counts count (history ++ (Restart i, Ok Restarted) ∷ []) (after_restart w i)
  restarts_once i r there = record {
    last = let more = restarts_push history (Restart i) (Ok Restarted) in let was = counts.last in omega (arith, more, was);
    replicas = λ j s is. at j s (replica_placed w i r (new_replica (w.last + 1)) j s there is);
    messages = unsent (Restart i) (Ok Restarted) (after_restart w i) (messages_stay w i (new_replica (w.last + 1))) (λ k answer_is. cc);
  }
    where
      at : (j : ℕ) (s : Replica) → IsPlaced w i (new_replica (w.last + 1)) j s → IsIn count (history ++ (Restart i, Ok Restarted) ∷ []) j s.incarnation (length s.merges)
      at j s (inl (same, is)) =
          subst (λ (s : Replica). IsIn count (history ++ (Restart i, Ok Restarted) ∷ []) j s.incarnation (length s.merges)) (sym is)
          (subst (λ (j : ℕ). IsIn count (history ++ (Restart i, Ok Restarted) ∷ []) j (w.last + 1) 0) (sym same)
          (subst (λ (n : ℕ). IsIn count (history ++ (Restart i, Ok Restarted) ∷ []) i (n + 1) 0) (sym counts.last) (is_in_new count history i)))
      at j s (inr (other, found)) =
          let still = is_in_still count history (Restart i) (Ok Restarted) j s.incarnation (length s.merges) (counts.replicas j s found) (λ restarts. let event_is = restarts.0 in other (cc)) in
          subst (IsIn count (history ++ (Restart i, Ok Restarted) ∷ []) j s.incarnation) (omega arith) still

  sends_once : (event : Event) (i : ℕ) (r : Replica) (s : StampedState) (cursor : Option Cursor) → replica w i ≡ Some r → IsStamped r.merges s → s.incarnation ≡ r.incarnation
      → sender_of event ≡ Some i → Counts count (history ++ (event, Ok (Sent (length w.messages + 1))) ∷ []) (with_message w (sent_by i r (delta_from s cursor)))
  sends_once event i r s cursor there stamped own sends =
      no_merge event answer (with_message w (sent_by i r (delta_from s cursor))) refl refl (no_restart_counted event sends) (λ j restarts. let other = restarts.1 in cc) (none_merged event sends)
      (sends_more count history event w.messages i (sent_by i r (delta_from s cursor)) counts.messages sends refl was_in)
    where
      answer : EventAnswer
      answer = Ok (Sent (length w.messages + 1))

      no_restart_counted : (event : Event) → sender_of event ≡ Some i → restart_of event answer ≡ 0
      no_restart_counted (Send j) sends = refl
      no_restart_counted (SendFrom j n) sends = refl
      no_restart_counted (Take j h) sends = cc
      no_restart_counted (Deliver j k) sends = cc
      no_restart_counted (Receive j bytes) sends = cc
      no_restart_counted (Restart j) sends = cc
      no_restart_counted (Ask j q) sends = cc

      none_merged : (event : Event) → sender_of event ≡ Some i → (j : ℕ) → merge_of j event answer ≡ 0
      none_merged (Send j) sends _ = refl
      none_merged (SendFrom j n) sends _ = refl
      none_merged (Take j h) sends _ = cc
      none_merged (Deliver j k) sends _ = cc
      none_merged (Receive j bytes) sends _ = cc
      none_merged (Restart j) sends _ = cc
      none_merged (Ask j q) sends _ = cc

      was_in : IsIn count history i s.incarnation s.number
      was_in =
          subst (λ (n : ℕ). IsIn count history i n s.number) (sym own)
          (subst (IsIn count history i r.incarnation) (sym stamped.number) (counts.replicas i r there))

  change_counts : (event : Event) (answer : EventAnswer) (new : World) → Change w event answer new → Counts count (history ++ (event, answer) ∷ []) new
  change_counts event answer new (change.idle idle is) =
      no_merge event answer new (ap (λ (w : World). w.last) is) (ap (λ (w : World). w.replicas) is) (idle_restarts event answer idle) (idle_not_restarted event answer idle)
      (idle_merges event answer idle) (unsent event answer new (ap (λ (w : World). w.messages) is) (idle_sends_nothing event answer idle))
  change_counts event answer new (change.took i h r there event_is answer_is is) =
      happened_as (Counts count) history event (Take i h) answer (Ok Taken) new _ event_is answer_is is
      (merges_once (Take i h) (Ok Taken) i r (after_merge r (h ∷ []) (merge.Harvest h)) there refl (length_push r.merges (merge.Harvest h)) refl (λ j restarts. let other = restarts.1 in cc)
      (λ k answer_is. cc) (counted i) (not_counted i))
  change_counts event answer new (change.received i bytes s r there text event_is answer_is is) =
      happened_as (Counts count) history event (Receive i bytes) answer (Ok Joined) new _ event_is answer_is is
      (merges_once (Receive i bytes) (Ok Joined) i r (after_merge r (adds s) (merge.State s)) there refl (length_push r.merges (merge.State s)) refl (λ j restarts. let other = restarts.1 in cc)
      (λ k answer_is. cc) (counted i) (not_counted i))
  change_counts event answer new (change.joined i k r m there found fit event_is answer_is is) =
      happened_as (Counts count) history event (Deliver i k) answer (Ok Joined) new _ event_is answer_is is
      (merges_once (Deliver i k) (Ok Joined) i r (after_join r m) there refl (length_push r.merges (merge.State m.delta.state)) refl (λ j restarts. let other = restarts.1 in cc)
      (λ k answer_is. cc) (counted i) (not_counted i))
  change_counts event answer new (change.sent i r s cursor there stamped own sends answer_is is) =
      happened_as (Counts count) history event event answer (Ok (Sent (length w.messages + 1))) new _ refl answer_is is (sends_once event i r s cursor there stamped own sends)
  change_counts event answer new (change.restarted i r there event_is answer_is is) =
      happened_as (Counts count) history event (Restart i) answer (Ok Restarted) new _ event_is answer_is is (restarts_once i r there)

pub counts_kept : (count : ℕ) → IsKept (Counts count)
counts_kept count history w event answer new counts changed = change_counts count history w counts event answer new changed

pub start_counts : (count : ℕ) → Counts count [] (start count)
start_counts count = record {
  last = omega arith;
  replicas = λ i r there.
      subst (λ (r : Replica). IsIn count [] i r.incarnation (length r.merges)) (sym (at_first count i r there).0) (first (no_restart_yet i) refl refl);
  messages = record {
    was_sent = λ k m found. absurd (no_message_at_first count k m found);
    is_there = λ sender k incarnation merges s. absurd (not_empty s.before s.after (s.sending, Ok (Sent k)) s.sent);
  };
}

course_counts : {base : List ℕ} (course : Course base) → Counts course.count (history_of course) course.world
course_counts {base} course = course_keeps (Counts course.count) (counts_kept course.count) course (start_counts course.count)

pub replica_is_in : {base : List ℕ} (course : Course base) (i : ℕ) (r : Replica) → replica course.world i ≡ Some r → IsIn course.count (history_of course) i r.incarnation (length r.merges)
replica_is_in course i r there = (course_counts course).replicas i r there

pub message_was_sent_in : {base : List ℕ} (course : Course base) (k : ℕ) (m : Message) → message course.world k ≡ Some m
    → WasSentIn course.count (history_of course) m.sender k m.delta.incarnation m.delta.end
message_was_sent_in course k m found = (course_counts course).messages.was_sent k m found

pub sent_message_is_there : {base : List ℕ} (course : Course base) (sender k incarnation merges : ℕ) → WasSentIn course.count (history_of course) sender k incarnation merges
    → (m : Message) × (message course.world k ≡ Some m) × (m.sender ≡ sender) × (m.delta.incarnation ≡ incarnation) × (m.delta.end ≡ merges)
sent_message_is_there course sender k incarnation merges s =
    let known = (course_counts course).messages.is_there sender k incarnation merges s in
    (known.0, known.1, known.2.sender_is, known.2.incarnation_is, known.2.end_is)

-- ---- no incarnation twice

-- a replica of this incarnation is the one of the number, which wasn't restarted since
record IsOwn (i number : ℕ) (history : History) (w : World) : Type 0 where
  pub born : number ≤ w.last
  pub own : (j : ℕ) (r : Replica) → replica w j ≡ Some r → number ≡ r.incarnation → (i ≡ j) × NoRestart history i

module _ (i number : ℕ) (history : History) (w : World) (owned : IsOwn i number history w) where
  -- replicas keep their incarnations
  own_still : (event : Event) (answer : EventAnswer) (new : World) → new.last ≡ w.last → ((j : ℕ) → ¬ IsRestart event answer j)
      → ((j : ℕ) (s : Replica) → replica new j ≡ Some s → (r : Replica) × (replica w j ≡ Some r) × (s.incarnation ≡ r.incarnation)) → IsOwn i number (history ++ (event, answer) ∷ []) new
  own_still event answer new last no_restart replicas = record {
    born = subst (λ (n : ℕ). number ≤ n) (sym last) owned.born;
    own = λ j s there is.
        let was = replicas j s there in
        let before = owned.own j was.0 was.1 (is ∙ was.2) in
        (before.0, no_restart_push history event answer i before.1 (no_restart i));
  }

  own_placed : (event : Event) (answer : EventAnswer) (j : ℕ) (r next : Replica) → replica w j ≡ Some r → next.incarnation ≡ r.incarnation → ((j : ℕ) → ¬ IsRestart event answer j)
      → IsOwn i number (history ++ (event, answer) ∷ []) (with_replica w j next)
  own_placed event answer j r next there own no_restart = own_still event answer (with_replica w j next) (last_stays w j next) no_restart (λ k s is. at k s (replica_placed w j r next k s there is))
    where
      at : (k : ℕ) (s : Replica) → IsPlaced w j next k s → (t : Replica) × (replica w k ≡ Some t) × (s.incarnation ≡ t.incarnation)
      at k s (inl (same, is)) = (r, ap (replica w) same ∙ there, ap (λ (s : Replica). s.incarnation) is ∙ own)
      at k s (inr (other, found)) = (s, found, refl)

  own_restarted : (j : ℕ) (r : Replica) → replica w j ≡ Some r → IsOwn i number (history ++ (Restart j, Ok Restarted) ∷ []) (after_restart w j)
  own_restarted j r there = record {
    born = let below = owned.born in omega (arith, below);
    own = λ k s is same. at k s same (replica_placed w j r (new_replica (w.last + 1)) k s there is);
  }
    where
      at : (k : ℕ) (s : Replica) → number ≡ s.incarnation → IsPlaced w j (new_replica (w.last + 1)) k s → (i ≡ k) × NoRestart (history ++ (Restart j, Ok Restarted) ∷ []) i
      at k s same (inl (_, is)) =
          let late : number ≡ w.last + 1 = same ∙ ap (λ (s : Replica). s.incarnation) is in
          let below = owned.born in
          absurd (omega (arith, late, below))
      at k s same (inr (other, found)) =
          let before = owned.own k s found same in
          (before.0, no_restart_push history (Restart j) (Ok Restarted) i before.1 (λ restarts. let event_is = restarts.0 in let i_is = before.0 in other (cc)))

  change_own : (event : Event) (answer : EventAnswer) (new : World) → Change w event answer new → IsOwn i number (history ++ (event, answer) ∷ []) new
  change_own event answer new (change.idle idle is) =
      own_still event answer new (ap (λ (w : World). w.last) is) (idle_not_restarted event answer idle) (λ j s there. (s, subst (λ (w : World). replica w j ≡ Some s) is there, refl))
  change_own event answer new (change.took j h r there event_is answer_is is) =
      subst (IsOwn i number (history ++ (event, answer) ∷ [])) (sym is)
      (own_placed event answer j r (after_merge r (h ∷ []) (merge.Harvest h)) there refl (λ k restarts. let other = restarts.1 in cc))
  change_own event answer new (change.received j bytes s r there text event_is answer_is is) =
      subst (IsOwn i number (history ++ (event, answer) ∷ [])) (sym is)
      (own_placed event answer j r (after_merge r (adds s) (merge.State s)) there refl (λ k restarts. let other = restarts.1 in cc))
  change_own event answer new (change.joined j k r m there found fit event_is answer_is is) =
      subst (IsOwn i number (history ++ (event, answer) ∷ [])) (sym is) (own_placed event answer j r (after_join r m) there refl (λ k restarts. let other = restarts.1 in cc))
  change_own event answer new (change.sent j r s cursor there stamped own sends answer_is is) =
      own_still event answer new (ap (λ (w : World). w.last) is) (λ k restarts. let other = restarts.1 in cc)
      (λ k t found. (t, subst (λ (rs : List Replica). at_number rs k ≡ Some t) (ap (λ (w : World). w.replicas) is) found, refl))
  change_own event answer new (change.restarted j r there event_is answer_is is) =
      happened_as (IsOwn i number) history event (Restart j) answer (Ok Restarted) new _ event_is answer_is is (own_restarted j r there)

own_kept : (i number : ℕ) → IsKept (IsOwn i number)
own_kept i number history w event answer new owned changed = change_own i number history w owned event answer new changed

pub own_incarnation : {base : List ℕ} (earlier course : Course base) (on : GoesOn earlier course) (i j : ℕ) (was r : Replica) → replica earlier.world i ≡ Some was → replica course.world j ≡ Some r
    → was.incarnation ≡ r.incarnation → (i ≡ j) × NoRestart (zip on.events on.answers) i
own_incarnation {base} earlier course on i j was r there here same =
    (run_keeps (IsOwn i was.incarnation) (own_kept i was.incarnation) base [] earlier.world on.events on.answers course.world then on.run).own j r here same
  where
    then : IsOwn i was.incarnation [] earlier.world
    then =
        let sound = (course_good earlier).sound in
        record { born = sound.born i was there; own = λ j r here same. (sound.apart i j was r there here same, no_restart_yet i) }
