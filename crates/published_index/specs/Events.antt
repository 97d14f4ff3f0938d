-- A merge as an event of a replica, what is said to it, and what a batch makes of the replica.
use Rattle.std.specs.Prelude.{◌≡◌, ◌≤◌, ◌++◌, ℕ, List, length, map, All, Some, Ok}
use Rattle.memento_index.specs.declared.merge.Merge.{Merge}
use Rattle.memento_index.specs.declared.merge.Merge.TheVariants.{Harvest, State}
use Rattle.replica_exchange.specs.StateText.{IsState, state_text}
use Rattle.replica_exchange.specs.Faults.{longest_text}
use Rattle.replica_events.specs.declared.event.Event.{Event}
use Rattle.replica_events.specs.declared.event.Event.TheVariants.{Take, Receive}
use Rattle.replica_events.specs.declared.event.Said.TheVariants.{Taken, Joined}
use Rattle.replica_events.specs.World.{EventAnswer, Replica, Run, World, last_number, replica, with_replica}
use Rattle.published_index.specs.Batches.{Batch, harvests_of, merges_of}

-- the event by which the replica of this number takes the merge: a harvest is taken, a state is received as its text
abbrev pub event_of : ℕ → Merge → Event
event_of i (Harvest h) = Take i h
event_of i (State s) = Receive i (state_text s)

-- what is said to it
abbrev pub answer_to : Merge → EventAnswer
answer_to (Harvest h) = Ok Taken
answer_to (State s) = Ok Joined

-- a merge that can be an event: a state's text may be received
abbrev pub IsReceivable : Merge → Type 0
IsReceivable (Harvest h) = Unit {0}
IsReceivable (State s) = IsState s × (length (state_text s) ≤ longest_text)

-- the replica once it has merged a batch
abbrev pub after_batch : Replica → Batch → Replica
after_batch r batch = record r { taken = r.taken ++ harvests_of batch; merges = r.merges ++ batch }

-- the merges of the batches are no more than a number of 64 bits counts
abbrev pub AreNumbered : List Batch → Type 0
AreNumbered list = length (merges_of list) ≤ last_number

-- a batch behind these is the events of its merges, in order, with nothing between, at each replica whose merges are
-- those before it; so far as each may be an event
abbrev pub RunsAsEvents : List Batch → Batch → Type 0
RunsAsEvents before batch = (base : List ℕ) (w : World) (i : ℕ) (r : Replica) → replica w i ≡ Some r
    → r.merges ≡ merges_of before → All IsReceivable batch
    → Run base w (map (event_of i) batch) (map answer_to batch) (with_replica w i (after_batch r batch))
