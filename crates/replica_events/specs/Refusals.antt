-- Why an event is refused, and the result of one that is accepted.
use Rattle.std.specs.Prelude.{◌≡◌, ℕ, ◌+◌, ◌<◌, ◌≤◌, length, Option, Some, None, IfSome}
use Rattle.std.specs.FinMap as map
use Rattle.harvest_lattice.specs.Lattice.{Entries}
use Rattle.replica_exchange.specs.StateText.{IsTextOf}
use Rattle.replica_exchange.specs.declared.cursor.Cursor.{Cursor}
use Rattle.replica_exchange.specs.declared.delta.Delta.{Delta}
use Rattle.timegate.specs.declared.reply.Reply.{Reply}
use Rattle.replica_events.specs.declared.event.Event.{Event}
use Rattle.replica_events.specs.declared.event.Event.TheVariants.{Take, Send, SendFrom, Deliver, Receive, Restart, Ask}
use Rattle.replica_events.specs.declared.event.Said.{Said}
use Rattle.replica_events.specs.declared.event.Said.TheVariants.{Taken, Sent, Joined, Restarted, Replied}
use Rattle.replica_events.specs.declared.event.Refused.{Refused}
use Rattle.replica_events.specs.declared.event.Refused.TheVariants.{NoReplica, NoMessage, BadState, NoMemory, Gap}
use Rattle.replica_events.specs.declared.event.Refused.TheVariants.{NumbersSpent}
use Rattle.replica_events.specs.World.{World, Replica, Message, HasReplica, replica, message}

-- the number of the replica that an event is about
abbrev pub replica_of : Event → ℕ
replica_of (Take i h) = i
replica_of (Send i) = i
replica_of (SendFrom i n) = i
replica_of (Deliver i k) = i
replica_of (Receive i bytes) = i
replica_of (Restart i) = i
replica_of (Ask i q) = i

-- the number of the message that an event delivers, if it delivers one
abbrev pub message_of : Event → Option ℕ
message_of (Take i h) = None
message_of (Send i) = None
message_of (SendFrom i n) = None
message_of (Deliver i k) = Some k
message_of (Receive i bytes) = None
message_of (Restart i) = None
message_of (Ask i q) = None

-- the event brings bytes that are the text of no state in either format, or more than 268,435,456
abbrev pub IsBadState : World → Event → Type 0
IsBadState w (Take i h) = ⊥
IsBadState w (Send i) = ⊥
IsBadState w (SendFrom i n) = ⊥
IsBadState w (Deliver i k) = (m : Message) × (message w k ≡ Some m) × (268435456 < length m.bytes)
IsBadState w (Receive i bytes) = (s : Entries) → length bytes ≤ 268435456 → ¬ IsTextOf bytes s
IsBadState w (Restart i) = ⊥
IsBadState w (Ask i q) = ⊥

-- the delta starts later than the cursor that is held, or at a merge of another incarnation than that cursor's
abbrev pub LeavesGap : Option Cursor → Delta → Type 0
LeavesGap held d = ¬ (d.start ≡ 0) × IfSome held (λ c. c.incarnation ≡ d.incarnation → c.number < d.start)

-- the replica is delivered a message whose bytes are within the limit, and holds this cursor for its sender
pub record IsDelivered (w : World) (event : Event) (r : Replica) (m : Message) (held : Option Cursor) : Type 0 where
  pub there : replica w (replica_of event) ≡ Some r
  pub number : ℕ
  pub delivers : message_of event ≡ Some number
  pub found : message w number ≡ Some m
  pub within : length m.bytes ≤ 268435456
  pub cursor : held ≡ map.get r.cursors m.sender

-- the event delivers a message whose delta leaves a gap after the cursor that is held for the sender
abbrev pub IsGap : World → Event → Option Cursor → Type 0
IsGap w event held = (r : Replica) × (m : Message) × IsDelivered w event r m held × LeavesGap held m.delta

-- as many merges were taken as a number of 64 bits counts
abbrev pub HasTakenAll : World → ℕ → Type 0
HasTakenAll w i = (r : Replica) × (replica w i ≡ Some r) × (length r.merges ≡ 18446744073709551615)

-- no number is left for the merge or the incarnation that the event begins
abbrev pub IsSpent : World → Event → Type 0
IsSpent w (Take i h) = HasTakenAll w i
IsSpent w (Send i) = ⊥
IsSpent w (SendFrom i n) = ⊥
IsSpent w (Deliver i k) =
    HasTakenAll w i × ((r : Replica) × (m : Message) × (held : Option Cursor)
    × IsDelivered w (Deliver i k) r m held × ¬ LeavesGap held m.delta)
IsSpent w (Receive i bytes) =
    HasTakenAll w i × ((s : Entries) × IsTextOf bytes s × (length bytes ≤ 268435456))
IsSpent w (Restart i) = HasReplica w i × (w.last ≡ 18446744073709551615)
IsSpent w (Ask i q) = ⊥

-- no replica has the number; no message has it; the bytes are bad; the delta leaves a gap; numbers are spent; or memory
-- was refused, which a restart doesn't take
abbrev pub IsCause : World → Event → Refused → Type 0
IsCause w event NoReplica = replica w (replica_of event) ≡ None
IsCause w event NoMessage =
    HasReplica w (replica_of event) × ((k : ℕ) × (message_of event ≡ Some k) × (message w k ≡ None))
IsCause w event BadState = HasReplica w (replica_of event) × IsBadState w event
IsCause w event (Gap held) = IsGap w event held
IsCause w event NumbersSpent = IsSpent w event
IsCause w event NoMemory = HasReplica w (replica_of event) × ((i : ℕ) → ¬ (event ≡ Restart i))

-- the result that goes with an event: a message that is sent is the last of the world, and a question changes nothing
abbrev pub IsResult : World → Event → Said → World → Type 0
IsResult w (Take i h) said next = said ≡ Taken
IsResult w (Send i) said next = (said ≡ Sent (length next.messages)) × (length next.messages ≡ length w.messages + 1)
IsResult w (SendFrom i n) said next =
    (said ≡ Sent (length next.messages)) × (length next.messages ≡ length w.messages + 1)
IsResult w (Deliver i k) said next = said ≡ Joined
IsResult w (Receive i bytes) said next = said ≡ Joined
IsResult w (Restart i) said next = said ≡ Restarted
IsResult w (Ask i q) said next = ((r : Reply) × (said ≡ Replied r)) × (next ≡ w)
