-- Worlds of replicas: what each replica has taken, the messages that were sent, and what each event does.
use Rattle.std.specs.Prelude.{◌≡◌, ℕ, zero, suc, ◌+◌, ◌<◌, ◌≤◌, ◌⊎◌, List, [], ◌∷◌, ◌++◌, length, slice_get}
use Rattle.std.specs.Prelude.{slice_set, true, false, Option, Some, None, MatchOption, Result, Ok, Err}
use Rattle.std.specs.FinMap as map
use Rattle.memento_index.specs.declared.merge.Merge.{Merge}
use Rattle.memento_index.specs.declared.merge.Merge.TheVariants as merge
use Rattle.harvest_lattice.specs.Lattice.{Entries}
use Rattle.harvest_lattice.specs.Knowledge.{Harvested, lat, adds}
use Rattle.replica_exchange.specs.StateText.{IsTextOf}
use Rattle.replica_exchange.specs.Faults.{longest_text}
use Rattle.replica_exchange.specs.Stamps.{StampedState, IsStamped}
use Rattle.replica_exchange.specs.declared.cursor.Cursor.{Cursor}
use Rattle.replica_exchange.specs.declared.delta.Delta.{Delta}
use Rattle.replica_exchange.specs.DeltaText.{delta_text}
use Rattle.replica_exchange.specs.CursorRule.{Held, delta_from, fits, taken_from}
use Rattle.timegate.specs.declared.request.Request.{Request}
use Rattle.timegate.specs.declared.reply.Reply.{Reply}
use Rattle.timegate.specs.Reply.{reply_of}
use Rattle.replica_events.specs.declared.event.Event.{Event}
use Rattle.replica_events.specs.declared.event.Event.TheVariants.{Take, Send, SendFrom, Deliver, Receive, Restart, Ask}
use Rattle.replica_events.specs.declared.event.Said.{Said}
use Rattle.replica_events.specs.declared.event.Said.TheVariants.{Taken, Sent, Joined, Restarted, Replied}
use Rattle.replica_events.specs.declared.event.Refused.{Refused}
use Rattle.replica_events.specs.declared.event.Refused.TheVariants.{NoReplica, NoMessage, BadState, NoMemory, Gap}
use Rattle.replica_events.specs.declared.event.Refused.TheVariants.{NumbersSpent}

-- a set of harvests, as a list of which only the members matter
abbrev pub Knowledge : Type 0
Knowledge = List Harvested

-- what a replica has taken since its last restart, directly or through others; its incarnation, a number that is new
-- with each restart; the merges by which it has taken all this, in order; and for each peer how far the peer's merges
-- are known to it
pub record Replica : Type 0 where
  pub taken : Knowledge
  pub incarnation : ℕ
  pub merges : List Merge
  pub cursors : Held

-- who sent it, what the sender had taken then, the delta that it carries, and the bytes that travel
pub record Message : Type 0 where
  pub sender : ℕ
  pub taken : Knowledge
  pub delta : Delta
  pub bytes : List ℕ

-- the replicas, every message that was ever sent (one that no delivery names is lost), and the last incarnation
pub record World : Type 0 where
  pub replicas : List Replica
  pub messages : List Message
  pub last : ℕ

-- the answer to an event
abbrev pub EventAnswer : Type 0
EventAnswer = Result Said Refused

-- a replica that has taken nothing in its incarnation
abbrev pub new_replica : ℕ → Replica
new_replica incarnation = record { taken = []; incarnation = incarnation; merges = []; cursors = map.empty }

-- `count` such replicas, in the incarnations that follow on this one
abbrev pub new_replicas_after : ℕ → ℕ → List Replica
new_replicas_after last zero = []
new_replicas_after last (suc count) = new_replica (last + 1) ∷ new_replicas_after (last + 1) count

-- a world of `count` replicas that have taken nothing, in the incarnations from 1 on, with no messages
abbrev pub start : ℕ → World
start count = record { replicas = new_replicas_after 0 count; messages = []; last = count }

-- the one of that number, counted from 1
abbrev pub at_number : {X : Type 0} → List X → ℕ → Option X
at_number all zero = None
at_number all (suc place) = slice_get all place

-- the replica of that number, if there is one
abbrev pub replica : World → ℕ → Option Replica
replica w i = at_number w.replicas i

-- the message of that number, if there is one
abbrev pub message : World → ℕ → Option Message
message w k = at_number w.messages k

-- the world with this replica in place of the one of that number
abbrev pub with_replica : World → ℕ → Replica → World
with_replica w zero r = w
with_replica w (suc place) r = record w { replicas = slice_set w.replicas place r }

-- the replica once it has taken these too, by this merge
abbrev pub after_merge : Replica → Knowledge → Merge → Replica
after_merge r more m = record r { taken = r.taken ++ more; merges = r.merges ++ m ∷ [] }

-- the replica once it has joined a message: it has taken all that the sender had, by the state of the delta
abbrev pub after_join : Replica → Message → Replica
after_join r m =
    record (after_merge r m.taken (merge.State m.delta.state)) { cursors = taken_from r.cursors m.sender m.delta }

-- what a replica sends: the text of a delta
abbrev pub sent_by : ℕ → Replica → Delta → Message
sent_by i r d = record { sender = i; taken = r.taken; delta = d; bytes = delta_text d }

-- a cursor at this number of the merges of the replica's incarnation
abbrev pub own_cursor : ℕ → Replica → Option Cursor
own_cursor n r = Some (record { incarnation = r.incarnation; number = n })

-- what a replica replies to a request, by the state of what it has taken with the stamps that its merges made
abbrev pub replica_reply : List ℕ → Replica → StampedState → Request → Reply
replica_reply base r s q = reply_of base (record s { entries = lat r.taken }) q

-- the world once the replica of this number has restarted, in the next incarnation that was never used
abbrev pub after_restart : World → ℕ → World
after_restart w i = record (with_replica w i (new_replica (w.last + 1))) { last = w.last + 1 }

-- the world with one more message
abbrev pub with_message : World → Message → World
with_message w m = record w { messages = w.messages ++ m ∷ [] }

-- an outcome of an event: the answer, and the world after it
abbrev pub Outcome : Type 1
Outcome = EventAnswer → World → Type 0

-- the event is accepted with this result, and this is the world then
abbrev pub Accepts : Said → World → Outcome
Accepts result next answer new = (answer ≡ Ok result) × (new ≡ next)

-- the event is refused, and changes nothing
abbrev pub Refuses : Refused → World → Outcome
Refuses why w answer new = (answer ≡ Err why) × (new ≡ w)

-- the outcome of an event at the replica of this number, if there is one
abbrev pub AtReplica : World → ℕ → (Replica → Outcome) → Outcome
AtReplica w i happens answer new =
    MatchOption (replica w i) (Refuses NoReplica w answer new) (λ r. happens r answer new)

-- the outcome of an event with the message of this number, if there is one
abbrev pub WithMessage : World → ℕ → (Message → Outcome) → Outcome
WithMessage w k happens answer new =
    MatchOption (message w k) (Refuses NoMessage w answer new) (λ m. happens m answer new)

-- the outcome of an event with bytes of at most 268,435,456, or else with more
abbrev pub IfWithinLimit : List ℕ → Outcome → Outcome → Outcome
IfWithinLimit bytes happens otherwise answer new =
    ((length bytes ≤ longest_text) × happens answer new) ⊎ ((longest_text < length bytes) × otherwise answer new)

-- the greatest number of 64 bits
abbrev pub last_number : ℕ
last_number = 18446744073709551615

-- the outcome of an event that needs the number after n, or else if none of 64 bits is left
abbrev pub IfNumberLeft : ℕ → Outcome → Outcome → Outcome
IfNumberLeft n happens otherwise answer new =
    (¬ (n ≡ last_number) × happens answer new) ⊎ ((n ≡ last_number) × otherwise answer new)

-- the outcome of an event with the state and the stamps that the replica's merges made
abbrev pub WithStamped : Replica → (StampedState → Outcome) → Outcome
WithStamped r happens answer new =
    (s : StampedState) × IsStamped r.merges s × (s.incarnation ≡ r.incarnation) × happens s answer new

-- the outcome of an event if the delta follows on the cursor that is held, or else if it leaves a gap
abbrev pub IfFits : Option Cursor → Delta → Outcome → Outcome → Outcome
IfFits held d happens otherwise answer new =
    ((fits held d ≡ true) × happens answer new) ⊎ ((fits held d ≡ false) × otherwise answer new)

-- the bytes are the text of a state in either format, and at most 268,435,456
pub record IsText (bytes : List ℕ) (s : Entries) : Type 0 where
  pub text : IsTextOf bytes s
  pub within : length bytes ≤ longest_text

-- the outcome of an event with bytes that are the text of a state, or else with others
abbrev pub IfText : List ℕ → (Entries → Outcome) → Outcome → Outcome
IfText bytes happens otherwise answer new =
    ((s : Entries) × IsText bytes s × happens s answer new)
    ⊎ (((s : Entries) → ¬ IsText bytes s) × otherwise answer new)

-- the outcome of an event by which a replica merges something
abbrev pub Merges : World → Replica → Said → World → Outcome
Merges w r said next = IfNumberLeft (length r.merges) (Accepts said next) (Refuses NumbersSpent w)

-- the outcome of an event by which a replica sends a delta from a cursor
abbrev pub Sends : World → ℕ → (Replica → Option Cursor) → Outcome
Sends w i cursor =
    AtReplica w i (λ r. WithStamped r (λ s.
    Accepts (Sent (length w.messages + 1)) (with_message w (sent_by i r (delta_from s (cursor r))))))

-- the outcome of the delivery of a message whose bytes are within the limit
abbrev pub Joins : World → ℕ → Replica → Message → Outcome
Joins w i r m =
    IfFits (map.get r.cursors m.sender) m.delta (Merges w r Joined (with_replica w i (after_join r m)))
    (Refuses (Gap (map.get r.cursors m.sender)) w)

-- the outcome of an event if there is memory
abbrev pub Effect : List ℕ → World → Event → Outcome
Effect base w (Take i h) =
    AtReplica w i (λ r. Merges w r Taken (with_replica w i (after_merge r (h ∷ []) (merge.Harvest h))))
Effect base w (Send i) = Sends w i (λ _. None)
Effect base w (SendFrom i n) = Sends w i (own_cursor n)
Effect base w (Deliver i k) =
    AtReplica w i (λ r. WithMessage w k (λ m. IfWithinLimit m.bytes (Joins w i r m) (Refuses BadState w)))
Effect base w (Receive i bytes) =
    AtReplica w i (λ r. IfText bytes
    (λ s. Merges w r Joined (with_replica w i (after_merge r (adds s) (merge.State s)))) (Refuses BadState w))
Effect base w (Restart i) =
    AtReplica w i (λ r. IfNumberLeft w.last (Accepts Restarted (after_restart w i)) (Refuses NumbersSpent w))
Effect base w (Ask i q) = AtReplica w i (λ r. WithStamped r (λ s. Accepts (Replied (replica_reply base r s q)) w))

-- the replica of this number is there
abbrev pub HasReplica : World → ℕ → Type 0
HasReplica w i = (r : Replica) × (replica w i ≡ Some r)

-- the message of this number is there, and its bytes are within the limit
abbrev pub HasMessage : World → ℕ → Type 0
HasMessage w k = (m : Message) × (message w k ≡ Some m) × (length m.bytes ≤ longest_text)

-- an event takes memory only once all that it names is there and its bytes are within the limit; a restart takes none
abbrev pub TakesMemory : World → Event → Type 0
TakesMemory w (Take i h) = HasReplica w i
TakesMemory w (Send i) = HasReplica w i
TakesMemory w (SendFrom i n) = HasReplica w i
TakesMemory w (Deliver i k) = HasReplica w i × HasMessage w k
TakesMemory w (Receive i bytes) = HasReplica w i × (length bytes ≤ longest_text)
TakesMemory w (Restart i) = ⊥
TakesMemory w (Ask i q) = HasReplica w i

-- the outcome of an event whose memory is refused: it changes nothing
abbrev pub RunsOut : World → Event → Outcome
RunsOut w event answer new = (answer ≡ Err NoMemory) × (new ≡ w) × TakesMemory w event

-- one event in a world whose service has this base
abbrev pub Step : List ℕ → World → Event → Outcome
Step base w event answer new = Effect base w event answer new ⊎ RunsOut w event answer new

-- events one after the other, with one answer to each
abbrev pub Run : List ℕ → World → List Event → List EventAnswer → World → Type 0
Run base w [] [] end = end ≡ w
Run base w (event ∷ events) (answer ∷ answers) end =
    (mid : World) × Step base w event answer mid × Run base mid events answers end
Run base w [] (answer ∷ answers) end = ⊥
Run base w (event ∷ events) [] end = ⊥

-- a list of events in a world of `count` replicas that have taken nothing: the answer to each, and the world after them
pub record Course (base : List ℕ) : Type 0 where
  pub count : ℕ
  pub events : List Event
  pub answers : List EventAnswer
  pub world : World
  pub run : Run base (start count) events answers world
