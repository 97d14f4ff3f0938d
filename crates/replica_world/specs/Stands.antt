-- What the program keeps of a world, and the worlds that it stands for.
use Rattle.std.specs.Prelude.{◌≡◌, ℕ, List, All, map, get_or, slice_set, refl}
use Rattle.std.specs.Coded.{Coded, code_by, coded×, coded_ℕ, coded_list}
use Rattle.std.specs.List.{AllZip}
use Rattle.std.specs.FinMap as fmap
use Rattle.memento_index.specs.declared.merge.Merge.{Merge}
use Rattle.replica_exchange.specs.CursorRule.{Held}
use Rattle.replica_exchange.specs.DeltaText.{delta_text, IsDelta}
use Rattle.replica_exchange.specs.Stamps.{IsStamped}
use Rattle.replica_events.specs.declared.event.Event.{Event}
use Rattle.replica_world.specs.declared.message.SentMessage.{SentMessage}
use Rattle.replica_world.specs.declared.replica.KeptReplica.{KeptReplica}
use Rattle.replica_events.specs.World.{World, Replica, Message, EventAnswer, Course, Step, Run}
use Rattle.replica_world.specs.Keeping.{IsMerged, coded_replica}

-- the service's base, what is kept of each replica and of each message, and the last incarnation: no set of harvests,
-- and no list of merges
pub record Kept : Type 0 where
  pub base : List ℕ
  pub replicas : List KeptReplica
  pub messages : List SentMessage
  pub last : ℕ

-- what is kept of a message, as a pair of its parts
abbrev pub coded_message : Coded SentMessage
coded_message =
    code_by (ℕ × List ℕ) (coded× coded_ℕ (coded_list coded_ℕ))
    (λ m. (m.sender, m.bytes)) (λ p. record { sender = p.0; bytes = p.1 }) (λ _. refl)

-- what is kept of a world, as a tuple of its parts
abbrev pub coded_kept_world : Coded Kept
coded_kept_world =
    code_by (List ℕ × (List KeptReplica × (List SentMessage × ℕ)))
    (coded× (coded_list coded_ℕ) (coded× (coded_list coded_replica) (coded× (coded_list coded_message) coded_ℕ)))
    (λ k. (k.base, (k.replicas, (k.messages, k.last))))
    (λ p. record { base = p.0; replicas = p.1.0; messages = p.1.1.0; last = p.1.1.1 }) (λ _. refl)

-- what is kept of a replica that has taken nothing
abbrev pub nothing_kept : KeptReplica
nothing_kept = record {
  stamped = record { entries = fmap.empty; stamps = fmap.empty; number = 0; incarnation = 0 };
  cursors = fmap.empty;
}

-- what is kept of the replica at a place
abbrev pub kept_at : Kept → ℕ → KeptReplica
kept_at kept place = get_or kept.replicas place nothing_kept

-- the replica at the place has merged this, and holds these cursors; nothing else has changed
pub record MergedAt (old : Kept) (place : ℕ) (m : Merge) (held : Held) (new : Kept) : Type 0 where
  pub base : new.base ≡ old.base
  pub messages : new.messages ≡ old.messages
  pub last : new.last ≡ old.last
  pub replicas : new.replicas ≡ slice_set old.replicas place (kept_at new place)
  pub merged : IsMerged (kept_at old place) m held (kept_at new place)

-- it is the state with stamps that the replica's merges made, and the replica's cursors
pub record Keeps (kept : KeptReplica) (r : Replica) : Type 0 where
  pub stamped : IsStamped r.merges kept.stamped
  pub incarnation : kept.stamped.incarnation ≡ r.incarnation
  pub cursors : kept.cursors ≡ r.cursors

-- what is kept of a message
abbrev pub kept_message : Message → SentMessage
kept_message m = record { sender = m.sender; bytes = m.bytes }

-- a message's bytes are the text of its delta
pub record IsSent (m : Message) : Type 0 where
  pub delta : IsDelta m.delta
  pub text : m.bytes ≡ delta_text m.delta

-- events lead to the world
pub record IsReached (base : List ℕ) (w : World) : Type 0 where
  pub course : Course base
  pub world : course.world ≡ w

-- what is kept stands for a world that events lead to: for each replica what its merges made and its cursors, for each
-- message its sender and its bytes
pub record Stands (kept : Kept) (w : World) : Type 0 where
  pub reached : IsReached kept.base w
  pub replicas : AllZip Keeps kept.replicas w.replicas
  pub messages : kept.messages ≡ map kept_message w.messages
  pub last : kept.last ≡ w.last
  pub sent : All IsSent w.messages

-- an event leads from a world to one that the new one stands for
pub record Leads (base : List ℕ) (w : World) (event : Event) (answer : EventAnswer) (new : Kept) : Type 0 where
  pub next : World
  pub step : Step base w event answer next
  pub stands : Stands new next

-- events lead from a world to one that the new one stands for
pub record LeadsOn (base : List ℕ) (w : World) (events : List Event) (answers : List EventAnswer) (new : Kept) : Type 0 where
  pub end : World
  pub run : Run base w events answers end
  pub stands : Stands new end

-- whatever world the old one stands for, the event leads from it to one that the new one stands for
pub record Steps (old : Kept) (event : Event) (answer : EventAnswer) (new : Kept) : Type 0 where
  pub base : new.base ≡ old.base
  pub leads : (w : World) → Stands old w → Leads old.base w event answer new

-- and so do events one after the other
pub record Runs (old : Kept) (events : List Event) (answers : List EventAnswer) (new : Kept) : Type 0 where
  pub base : new.base ≡ old.base
  pub leads : (w : World) → Stands old w → LeadsOn old.base w events answers new
