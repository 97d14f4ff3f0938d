-- What is noted of each peer, by the number that it has.
use Rattle.std.specs.Prelude.{◌≡◌, ◌+◌, ◌-◌, ◌^◌, ℕ, zero, suc, min, Bool, true, false, List, Option, Some, None, MatchOption, slice_get, nat_lt, option_and_then}
use Rattle.std.specs.Option.{option_map_or}
use Rattle.round_values.specs.Desks.{IsNoted}
use Rattle.round_values.specs.declared.times.Millis.{Millis}
use Rattle.round_standing.specs.declared.peers.PullNotes.{PullNotes}
use Rattle.round_standing.specs.declared.peers.PeerNotes.{PeerNotes}

-- the place of the peer with this number, which is counted from 1
abbrev pub place_of : ℕ → Option ℕ
place_of zero = None
place_of (suc place) = Some place

-- what is noted of the peer with this number, if there is one
abbrev pub noted_of : {N : Type 0} → List N → ℕ → Option N
noted_of all peer = option_and_then (slice_get all) (place_of peer)

-- what is noted of this peer changes so, if there is one, and nothing of any other
abbrev pub IsNotedAt : {N : Type 0} → ℕ → (N → N) → List N → List N → Type 0
IsNotedAt peer change old new = MatchOption (place_of peer) (new ≡ old) (λ place. IsNoted place change old new)

-- a pull begins: parts that are to come from the pull before still are
abbrev pub begun_at : Millis → PullNotes → PullNotes
begun_at now pull = record { begun = now; parts = 0; has_news = false; is_stale = false; stepped = pull.stepped }

-- one part more is taken, which others follow or not
abbrev pub with_part : Millis → Bool → PullNotes → PullNotes
with_part now true pull = record pull { parts = min (pull.parts + 1) (2 ^ 64 - 1); stepped = Some now }
with_part now false pull = record pull { parts = min (pull.parts + 1) (2 ^ 64 - 1); stepped = None }

-- whether parts are to come, of which the last came less than so many milliseconds ago
abbrev pub is_unfinished : Millis → ℕ → PullNotes → Bool
is_unfinished now most pull = option_map_or (λ (stepped : Millis). nat_lt (now.0 - stepped.0) most) pull.stepped false

-- all that the peer has is asked for anew, and what it is being asked for isn't taken
abbrev pub without_lead : PeerNotes → PeerNotes
without_lead notes = record notes { pull = record notes.pull { is_stale = notes.is_pulled }; lead = None; walking = None }
