-- In which incarnation a replica is, and how often it has merged in it, by the events that were accepted.
use Rattle.std.specs.Prelude.{◌≡◌, ℕ, ◌+◌, ◌==◌, ◌&&◌, Bool, true, false, [], ◌∷◌, ◌++◌, Some, Ok, Err, refl}
use Rattle.std.specs.List.{count_by}
use Rattle.std.specs.Result.{is_ok}
use Rattle.replica_events.specs.declared.event.Event.{Event}
use Rattle.replica_events.specs.declared.event.Event.TheVariants.{Take, Send, SendFrom, Deliver, Receive, Restart, Ask}
use Rattle.replica_events.specs.declared.event.Said.TheVariants.{Sent, Joined, Restarted}
use Rattle.replica_events.specs.declared.event.Refused.TheVariants.{NoReplica, NoMemory}
use Rattle.replica_events.specs.History.{History, NoRestart, sender_of}

-- the event restarts a replica
abbrev pub is_restart : Event → Bool
is_restart (Restart i) = true
is_restart (Take i h) = false
is_restart (Send i) = false
is_restart (SendFrom i n) = false
is_restart (Deliver i k) = false
is_restart (Receive i bytes) = false
is_restart (Ask i q) = false

-- by the event the replica of this number merges something
abbrev pub is_merge_of : ℕ → Event → Bool
is_merge_of i (Take j h) = j == i
is_merge_of i (Deliver j k) = j == i
is_merge_of i (Receive j bytes) = j == i
is_merge_of i (Send j) = false
is_merge_of i (SendFrom j n) = false
is_merge_of i (Restart j) = false
is_merge_of i (Ask j q) = false

-- how many restarts were accepted, of whichever replicas
abbrev pub restarts : History → ℕ
restarts history = count_by (λ happened. is_restart happened.0 && is_ok happened.1) history

-- how many merges of the replica of this number were accepted
abbrev pub merges_of : ℕ → History → ℕ
merges_of i history = count_by (λ happened. is_merge_of i happened.0 && is_ok happened.1) history

-- After this history, which `count` replicas began, the replica of this number is in this incarnation, and has merged
-- so often in it.
pub data IsIn (count : ℕ) (history : History) (i incarnation merges : ℕ) : Type 0 where
  -- it was never restarted: the first incarnations are the numbers of the replicas
  first : NoRestart history i → incarnation ≡ i → merges ≡ merges_of i history → IsIn count history i incarnation merges
  -- this was its last restart: every restart, of whichever replica, began the next number
  restarted : (before after : History) → history ≡ before ++ (Restart i, Ok Restarted) ∷ after → NoRestart after i
      → incarnation ≡ count + restarts before + 1 → merges ≡ merges_of i after
      → IsIn count history i incarnation merges

-- the message of this number was sent by this replica, which then was in this incarnation and had merged so often in it
pub record WasSentIn (count : ℕ) (history : History) (sender number incarnation merges : ℕ) : Type 0 where
  pub sending : Event
  pub sends : sender_of sending ≡ Some sender
  pub before : History
  pub after : History
  pub sent : history ≡ before ++ (sending, Ok (Sent number)) ∷ after
  pub was_in : IsIn count before sender incarnation merges

-- for example: a refused restart doesn't count, nor does a refused merge, or another replica's
two_restarts : restarts
    ((Restart 1, Ok Restarted) ∷ (Restart 3, Err NoReplica) ∷ (Send 1, Ok (Sent 1)) ∷ (Restart 2, Ok Restarted) ∷ [])
    ≡ 2
two_restarts = refl

two_merges : merges_of 1
    ((Deliver 1 1, Ok Joined) ∷ (Deliver 2 1, Ok Joined) ∷ (Receive 1 [], Err NoMemory) ∷ (Receive 1 [], Ok Joined) ∷ [])
    ≡ 2
two_merges = refl
