-- What replicas have learnt, by the events that were accepted. No replica and no message is looked into.
use Rattle.std.specs.Prelude.{◌≡◌, ◌↔◌, ℕ, List, ◌∷◌, ◌++◌, Option, Some, None, Ok, Contains, zip}
use Rattle.harvest_lattice.specs.Lattice.{Entries}
use Rattle.harvest_lattice.specs.Knowledge.{Harvested, adds}
use Rattle.replica_events.specs.declared.event.Event.{Event}
use Rattle.replica_events.specs.declared.event.Event.TheVariants.{Take, Send, SendFrom, Deliver, Receive, Restart, Ask}
use Rattle.replica_events.specs.declared.event.Said.TheVariants.{Taken, Sent, Joined, Restarted}
use Rattle.replica_events.specs.World.{EventAnswer, Course, IsText}

-- an event, and the answer to it
abbrev pub Happened : Type 0
Happened = Event × EventAnswer

-- all that happened, in order
abbrev pub History : Type 0
History = List Happened

-- what happened in a course of events
abbrev pub history_of : {base : List ℕ} → Course base → History
history_of course = zip course.events course.answers

-- no restart of the replica of this number is accepted in it
abbrev pub NoRestart : History → ℕ → Type 0
NoRestart history i = ¬ Contains history (Restart i, Ok Restarted)

-- the replica that sends by an event, if one does
abbrev pub sender_of : Event → Option ℕ
sender_of (Send i) = Some i
sender_of (SendFrom i n) = Some i
sender_of (Take i h) = None
sender_of (Deliver i k) = None
sender_of (Receive i bytes) = None
sender_of (Restart i) = None
sender_of (Ask i q) = None

-- The replica of this number has learnt the harvest, and since then it wasn't restarted.
pub data Learnt : History → ℕ → Harvested → Type 0 where
  -- it took the harvest itself
  took : {history : History} {i : ℕ} {h : Harvested} (before after : History)
      → history ≡ before ++ (Take i h, Ok Taken) ∷ after → NoRestart after i → Learnt history i h
  -- it received the text of a state that has the harvest
  received : {history : History} {i : ℕ} {h : Harvested} (before after : History) (bytes : List ℕ) (state : Entries)
      → history ≡ before ++ (Receive i bytes, Ok Joined) ∷ after → NoRestart after i → IsText bytes state
      → Contains (adds state) h → Learnt history i h
  -- it was delivered a message whose sender, which may be itself, had learnt the harvest before it sent the message
  through : {history : History} {i : ℕ} {h : Harvested} (before between after : History) (sender message : ℕ)
      (sending : Event) → sender_of sending ≡ Some sender
      → history ≡ before ++ (sending, Ok (Sent message)) ∷ between ++ (Deliver i message, Ok Joined) ∷ after
      → NoRestart after i
      → Learnt before sender h → Learnt history i h

-- the message of this number was sent by a replica that had learnt the harvest
pub record Carries (history : History) (message : ℕ) (h : Harvested) : Type 0 where
  pub sender : ℕ
  pub sending : Event
  pub sends : sender_of sending ≡ Some sender
  pub before : History
  pub after : History
  pub sent : history ≡ before ++ (sending, Ok (Sent message)) ∷ after
  pub learnt : Learnt before sender h

-- this replica sent the message of this number
pub record HasSent (history : History) (sender message : ℕ) : Type 0 where
  pub sending : Event
  pub sends : sender_of sending ≡ Some sender
  pub sent : Contains history (sending, Ok (Sent message))

-- both replicas have learnt the same harvests
abbrev pub LearntAlike : History → ℕ → ℕ → Type 0
LearntAlike history i j = (h : Harvested) → Learnt history i h ↔ Learnt history j h

-- what happened is no accepted restart, and no message that was sent
pub record IsLocal (happened : Happened) : Type 0 where
  pub no_restart : (i : ℕ) → ¬ (happened ≡ (Restart i, Ok Restarted))
  pub no_send : (event : Event) (message : ℕ) → ¬ (happened ≡ (event, Ok (Sent message)))
