-- What a pull makes of a round and of its merger.
use Rattle.std.specs.Prelude.{◌≡◌, ℕ, ◌+◌, ◌-◌, ◌^◌, min, true}
use Rattle.std.specs.FinMap as map
use Rattle.replica_exchange.specs.declared.delta.Delta.{Delta}
use Rattle.replica_exchange.specs.CursorRule.{fits}
use Rattle.harvest_lattice.specs.Lattice.{Entries}
use Rattle.published_index.specs.declared.mergers.TakenAs.{TakenAs}
use Rattle.published_index.specs.declared.mergers.TakenAs.TheVariants.{News, Known}
use Rattle.memento_index.specs.declared.merge.Merge.TheVariants.{State}
use Rattle.published_index.specs.Cursors.{with_delta, with_merge}
use Rattle.published_index.specs.Views.{MergerView}
use Rattle.outgoing_requests.specs.Pulls.{IsBrought}
use Rattle.round_values.specs.declared.rounds.Round.{Round}

-- the round with one pull more, as far as it can be counted, which waits to be published
abbrev pub with_pull : Round → Round
with_pull round = record round { pulls = min (round.pulls + 1) (2 ^ 64 - 1); pending = true }

-- the round once a delta is taken: only what is news counts
abbrev pub with_taken : TakenAs → Round → Round
with_taken News round = with_pull round
with_taken Known round = round

-- a delta that an answer brought, and that fits the cursor that was held for this peer, is appended and counted
pub record Pulls (peer : ℕ) (round : Round) (m : MergerView) (next : Round) (n : MergerView) : Type 0 where
  pub delta : Delta
  pub brought : IsBrought delta
  pub follows : fits (map.get m.cursors peer) delta ≡ true
  pub merger : n ≡ with_delta m peer delta
  pub counted : next ≡ with_pull round

-- this much of a delta is appended and counted, and no cursor moves
pub record PullsSome (state : Entries) (round : Round) (m : MergerView) (next : Round) (n : MergerView) : Type 0 where
  pub merger : n ≡ with_merge m (State state)
  pub cursors : n.cursors ≡ m.cursors
  pub counted : next ≡ with_pull round

-- nothing is appended, and nothing counted
pub record PullsNothing (round : Round) (m : MergerView) (next : Round) (n : MergerView) : Type 0 where
  pub merger : n ≡ m
  pub counted : next ≡ round
