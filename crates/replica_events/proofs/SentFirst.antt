-- In a course a message is sent before it is delivered: its number goes to no other message later.
use Rattle.std.proofs.Common.{◌≡◌, ◌↔◌, ℕ, zero, suc, ◌+◌, ◌<◌, ◌≤◌, ◌⊎◌, List, [], ◌∷◌, ◌++◌, length, Some, Ok, Contains, slice_get, sym, ap, subst, ◌∙◌, append_assoc, inl, inr, arith}
use Rattle.std.proofs.lemmas.List.{length_push}
use Rattle.std.proofs.lemmas.List.Elements.{Contains-append_left, Contains-append_right, Contains-push, Contains-push_cases}
use Rattle.harvest_lattice.specs.Knowledge.{Harvested}
use Rattle.replica_exchange.specs.CursorRule.{delta_from}
use Rattle.replica_events.specs.declared.event.Event.{Event}
use Rattle.replica_events.specs.declared.event.Event.TheVariants.{Deliver}
use Rattle.replica_events.specs.declared.event.Said.TheVariants.{Sent, Joined}
use Rattle.replica_events.specs.World.{World, Message, EventAnswer, Course, at_number, start, sent_by}
use Rattle.replica_events.specs.History.{Happened, History, history_of, NoRestart, Learnt}
use Rattle.replica_events.proofs.Numbers.{messages_stay}
use Rattle.replica_events.proofs.Histories.{not_empty, stood, Stood}
use Rattle.replica_events.proofs.Changes as change
use Rattle.replica_events.proofs.Changes.{Change, IsIdle, course_keeps}
use Rattle.replica_events.proofs.Deliveries.{repeated_delivery}

-- a message that was delivered is there, and no message got its number later
record IsSentFirst (history : History) (w : World) : Type 0 where
  pub there : (i k : ℕ) → Contains history (Deliver i k, Ok Joined) → k ≤ length w.messages
  pub later : (before after : History) (i k : ℕ) → history ≡ before ++ (Deliver i k, Ok Joined) ∷ after → (sending : Event) → ¬ Contains after (sending, Ok (Sent k))

nothing_in_none : {X : Type 0} (x : X) → ¬ Contains [] x
nothing_in_none x at = let below = at.1 in absurd (omega (arith, below))

-- the element that a list is cut at is in it
cut_at : {X : Type 0} (all before after : List X) (x : X) → all ≡ before ++ x ∷ after → Contains all x
cut_at all before after x is =
    subst (λ (l : List _). Contains l x) (sym is) (Contains-append_right before (x ∷ after) x (Contains-append_left (x ∷ []) after x (Contains-push [] x)))

place_within : {X : Type 0} (xs : List X) (place : ℕ) (x : X) → slice_get xs place ≡ Some x → suc place ≤ length xs
place_within [] place x is = cc
place_within (y ∷ xs) zero x is = omega arith
place_within (y ∷ xs) (suc place) x is = let rest = place_within xs place x is in omega (arith, rest)

number_within : {X : Type 0} (xs : List X) (k : ℕ) (x : X) → at_number xs k ≡ Some x → k ≤ length xs
number_within xs zero x is = omega arith
number_within xs (suc place) x is = place_within xs place x is

-- one event more, that loses no message, joins only one that is there, and sends only one with a new number
module _ (history : History) (w : World) (first : IsSentFirst history w) (event : Event) (answer : EventAnswer) (new : World) (grows : length w.messages ≤ length new.messages)
    (joins : (i k : ℕ) → event ≡ Deliver i k → answer ≡ Ok Joined → k ≤ length w.messages) (sends : (k : ℕ) → answer ≡ Ok (Sent k) → length w.messages < k) where
  there_still : (i k : ℕ) → Contains history (Deliver i k, Ok Joined) ⊎ (let x : Happened = (event, answer) in x ≡ (Deliver i k, Ok Joined)) → k ≤ length new.messages
  there_still i k (inl before) = let was = first.there i k before in omega (arith, was, grows)
  there_still i k (inr last) =
      let is = joins i k (ap (λ (x : Happened). x.0) last) (ap (λ (x : Happened). x.1) last) in omega (arith, is, grows)

  not_sent : (before rest : History) (i k : ℕ) → history ≡ before ++ (Deliver i k, Ok Joined) ∷ rest → (sending : Event)
      → Contains rest (sending, Ok (Sent k)) ⊎ (let x : Happened = (event, answer) in x ≡ (sending, Ok (Sent k))) → ⊥
  not_sent before rest i k front sending (inl at) = first.later before rest i k front sending at
  not_sent before rest i k front sending (inr last) =
      let above = sends k (ap (λ (x : Happened). x.1) last) in
      let within = first.there i k (cut_at history before rest (Deliver i k, Ok Joined) front) in
      absurd (omega (arith, above, within))

  later_still : (before after : History) (i k : ℕ) → Stood history (event, answer) before (Deliver i k, Ok Joined) after → (sending : Event) → ¬ Contains after (sending, Ok (Sent k))
  later_still before after i k (inl (_, _, none)) sending at = nothing_in_none (sending, Ok (Sent k)) (subst (λ (l : History). Contains l (sending, Ok (Sent k))) none at)
  later_still before after i k (inr (rest, front, back)) sending at =
      not_sent before rest i k front sending
      (Contains-push_cases rest (event, answer) (sending, Ok (Sent k)) (subst (λ (l : History). Contains l (sending, Ok (Sent k))) back at))

  still_first : IsSentFirst (history ++ (event, answer) ∷ []) new
  still_first = record {
    there = λ i k at. there_still i k (Contains-push_cases history (event, answer) (Deliver i k, Ok Joined) at);
    later = λ before after i k is. later_still before after i k (stood history before after (event, answer) (Deliver i k, Ok Joined) is);
  }

as_many : (a b : List Message) → b ≡ a → length a ≤ length b
as_many a b is = let lengths = ap (λ (ms : List Message). length ms) is in omega (arith, lengths)

idle_joins_nothing : (event : Event) (answer : EventAnswer) → IsIdle event answer → ¬ (answer ≡ Ok Joined)
idle_joins_nothing event answer (inl (why, is)) said = cc
idle_joins_nothing event answer (inr (i, q, reply, _, is)) said = cc

pub idle_sends_nothing : (event : Event) (answer : EventAnswer) → IsIdle event answer → (k : ℕ) → ¬ (answer ≡ Ok (Sent k))
idle_sends_nothing event answer (inl (why, is)) k said = cc
idle_sends_nothing event answer (inr (i, q, reply, _, is)) k said = cc

first_kept : (history : History) (w : World) (event : Event) (answer : EventAnswer) (new : World) → IsSentFirst history w → Change w event answer new
    → IsSentFirst (history ++ (event, answer) ∷ []) new
first_kept history w event answer new first (change.idle idle is) =
    still_first history w first event answer new (as_many w.messages new.messages (ap (λ (w : World). w.messages) is))
    (λ i k _ said. absurd (idle_joins_nothing event answer idle said)) (λ k said. absurd (idle_sends_nothing event answer idle k said))
first_kept history w event answer new first (change.took i h r there event_is answer_is is) =
    still_first history w first event answer new (as_many w.messages new.messages (ap (λ (w : World). w.messages) is ∙ messages_stay w i _))
    (λ j k _ said. absurd (cc)) (λ k said. absurd (cc))
first_kept history w event answer new first (change.received i bytes s r there text event_is answer_is is) =
    still_first history w first event answer new (as_many w.messages new.messages (ap (λ (w : World). w.messages) is ∙ messages_stay w i _))
    (λ j k other said. absurd (cc)) (λ k said. absurd (cc))
first_kept history w event answer new first (change.joined i k r m there found fit event_is answer_is is) =
    still_first history w first event answer new (as_many w.messages new.messages (ap (λ (w : World). w.messages) is ∙ messages_stay w i _))
    (λ j n other said. let same : k ≡ n = cc in subst (λ (n : ℕ). n ≤ length w.messages) same (number_within w.messages k m found)) (λ n said. absurd (cc))
first_kept history w event answer new first (change.sent i r s cursor there stamped own sender answer_is is) =
    let more : length new.messages ≡ length w.messages + 1 = ap (λ (w : World). length w.messages) is ∙ length_push w.messages (sent_by i r (delta_from s cursor)) in
    still_first history w first event answer new (omega (arith, more)) (λ j k other said. absurd (cc))
    (λ k said. let same : length w.messages + 1 ≡ k = cc in omega (arith, same))
first_kept history w event answer new first (change.restarted i r there event_is answer_is is) =
    still_first history w first event answer new (as_many w.messages new.messages (ap (λ (w : World). w.messages) is ∙ messages_stay w i _))
    (λ j k _ said. absurd (cc)) (λ k said. absurd (cc))

first_at_start : (count : ℕ) → IsSentFirst [] (start count)
first_at_start count = record {
  there = λ i k at. absurd (nothing_in_none (Deliver i k, Ok Joined) at);
  later = λ before after i k is. absurd (not_empty before after (Deliver i k, Ok Joined) is);
}

-- so what is delivered again is the same message
pub delivered_again : (base : List ℕ) (course : Course base) (before between after : History) (i k : ℕ)
    → history_of course ≡ before ++ (Deliver i k, Ok Joined) ∷ between ++ (Deliver i k, Ok Joined) ∷ after → NoRestart between i → (j : ℕ) (h : Harvested)
    → Learnt (history_of course) j h ↔ Learnt (before ++ (Deliver i k, Ok Joined) ∷ between ++ after) j h
delivered_again base course before between after i k is none j h =
    let y : Happened = (Deliver i k, Ok Joined) in
    let cut : history_of course ≡ before ++ y ∷ (between ++ y ∷ after) = is ∙ append_assoc before (y ∷ between) (y ∷ after) in
    let later = (course_keeps IsSentFirst first_kept course (first_at_start course.count)).later before (between ++ y ∷ after) i k cut in
    subst (λ (l : History). Learnt l j h ↔ Learnt (before ++ y ∷ between ++ after) j h) (sym is)
    (repeated_delivery before between after i k none (λ sending at. later sending (Contains-append_left between (y ∷ after) (sending, Ok (Sent k)) at)) j h)
