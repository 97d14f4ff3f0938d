-- What the cursors of a world say, and by which deliveries they are held.
use Rattle.std.specs.Prelude.{◌≡◌, ℕ, ◌≤◌, ◌++◌, List, ◌∷◌, length, Some, Ok}
use Rattle.harvest_lattice.specs.Lattice.{Entries, AtMost}
use Rattle.replica_exchange.specs.Stamps.{state_after}
use Rattle.replica_exchange.specs.declared.cursor.Cursor.{Cursor}
use Rattle.replica_events.specs.declared.event.Event.{Event}
use Rattle.replica_events.specs.declared.event.Event.TheVariants.{Deliver}
use Rattle.replica_events.specs.declared.event.Said.TheVariants.{Joined}
use Rattle.replica_events.specs.World.{Replica, EventAnswer, Course, Run, replica}
use Rattle.replica_events.specs.History.{History, NoRestart}
use Rattle.replica_events.specs.Incarnations.{WasSentIn}

-- a course goes on from another one
pub record GoesOn {base : List ℕ} (earlier course : Course base) : Type 0 where
  pub events : List Event
  pub answers : List EventAnswer
  pub count : course.count ≡ earlier.count
  pub events_are : course.events ≡ earlier.events ++ events
  pub answers_are : course.answers ≡ earlier.answers ++ answers
  pub run : Run base earlier.world events answers course.world

-- at some time of the course the peer, in the cursor's incarnation, had taken just as many merges as the cursor says,
-- and the state has at least what these made
pub record IsReached {base : List ℕ} (course : Course base) (peer : ℕ) (c : Cursor) (state : Entries) : Type 0 where
  pub earlier : Course base
  pub goes_on : GoesOn earlier course
  pub was : Replica
  pub there : replica earlier.world peer ≡ Some was
  pub incarnation : was.incarnation ≡ c.incarnation
  pub number : length was.merges ≡ c.number
  pub reached : AtMost (state_after was.merges) state

-- The replica of this number was delivered a message of the peer, and after that, when all this happened, it wasn't
-- restarted. The cursor is the end of the message's delta: the incarnation that the peer was in when it sent the
-- message, and how often it had merged in it.
pub record WasBrought (count : ℕ) (history : History) (i peer : ℕ) (end : Cursor) (after : History) : Type 0 where
  pub before : History
  pub message : ℕ
  pub sent : WasSentIn count before peer message end.incarnation end.number
  pub delivered : history ≡ before ++ (Deliver i message, Ok Joined) ∷ after
  pub no_restart : NoRestart after i

-- the replica was brought this end, and each that it was brought of the peer since then is of the same incarnation
pub record IsRecent (count : ℕ) (history : History) (i peer : ℕ) (end : Cursor) : Type 0 where
  pub after : History
  pub brought : WasBrought count history i peer end after
  pub same : (later : Cursor) (between rest : History) → WasBrought count history i peer later rest
      → after ≡ between ++ rest → later.incarnation ≡ end.incarnation

-- the end is recent, and no recent one is further
pub record IsFurthest (count : ℕ) (history : History) (i peer : ℕ) (end : Cursor) : Type 0 where
  pub recent : IsRecent count history i peer end
  pub furthest : (other : Cursor) → IsRecent count history i peer other → other.number ≤ end.number
