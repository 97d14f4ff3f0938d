-- Whether the cursors move that are held for peers, and when a walk over parts begins anew.
use Rattle.std.specs.Prelude.{◌≡◌, ◌-◌, ◌^◌, ℕ, min, Bool, false, Option, None}
use Rattle.std.specs.Option.{option_map_or}
use Rattle.delta_parts.specs.declared.walk.Walk.{Walk}
use Rattle.replica_exchange.specs.declared.delta.Delta.{Delta}
use Rattle.published_index.specs.Views.{MergerView}
use Rattle.forgetting.specs.declared.standing.Forgetting.{Forgetting}
use Rattle.round_standing.specs.declared.peers.Peers.{Peers}
use Rattle.round_standing.specs.declared.standing.Standing.{Standing}
use Rattle.round_standing.specs.Peers.{IsNotedAt, noted_of}
use Rattle.round_values.specs.Ahead.{left_out, taken}
use Rattle.round_values.specs.Steps.{walk_of}

-- no cursor moves: none of those that stay where something is forgotten, and none of the merger's
abbrev pub StayHeld : Forgetting → MergerView → Forgetting → MergerView → Type 0
StayHeld f m g n = (g.cursors ≡ f.cursors) × (n.cursors ≡ m.cursors)

-- what isn't ahead of a second of a delta, beside how many harvests are, as far as 64 bits count
abbrev pub IsTimelyOf : ℕ → Delta → Delta × ℕ → Type 0
IsTimelyOf last delta it = (it.0 ≡ record delta { state = taken last delta.state })
    × (it.1 ≡ min (left_out last delta.state) (2 ^ 64 - 1))

-- the walk over the parts of a peer's delta, if there is one
abbrev pub walk_with : Peers → ℕ → Option Walk
walk_with peers peer = walk_of (option_map_or (λ notes. notes.walking) (noted_of peers.all.items peer) None)

-- the peer has to be asked for something else than it was asked for
abbrev pub is_stale : Peers → ℕ → Bool
is_stale peers peer = option_map_or (λ notes. notes.pull.is_stale) (noted_of peers.all.items peer) false

-- nothing of an answer is taken, and what is told of former forgettings stays
abbrev pub IsUntaken : Standing → MergerView → Standing → MergerView → Type 0
IsUntaken s m t n = (n ≡ m) × (t.forgetting ≡ s.forgetting)

-- the walk over the parts of a peer's delta begins anew, and nothing is taken
pub record BeginsAnew (peer : ℕ) (s : Standing) (m : MergerView) (t : Standing) (n : MergerView) : Type 0 where
  pub walking : IsNotedAt peer (λ notes. record notes { walking = None }) s.peers.all.items t.peers.all.items
  pub merger : n ≡ m
  pub forgetting : t.forgetting ≡ s.forgetting
