-- What a merger's calls make of it, and what its cursors say of the merges that it has.
use Rattle.std.specs.Prelude.{◌≡◌, ℕ, List, [], ◌∷◌, ◌++◌, take, Option, IfSome}
use Rattle.std.specs.FinMap as map
use Rattle.harvest_lattice.specs.Lattice.{Entries, AtMost}
use Rattle.harvest_lattice.specs.Knowledge.{lat}
use Rattle.memento_index.specs.declared.merge.Merge.{Merge}
use Rattle.memento_index.specs.declared.merge.Merge.TheVariants.{State}
use Rattle.replica_exchange.specs.declared.cursor.Cursor.{Cursor}
use Rattle.replica_exchange.specs.declared.delta.Delta.{Delta}
use Rattle.replica_exchange.specs.Stamps.{StampedState, IsStamped, state_after}
use Rattle.replica_exchange.specs.CursorRule.{delta_from, taken_from}
use Rattle.published_index.specs.declared.mergers.TakenAs.{TakenAs}
use Rattle.published_index.specs.declared.mergers.TakenAs.TheVariants.{News, Known}
use Rattle.published_index.specs.Batches.{fold_of, merges_of}
use Rattle.published_index.specs.Views.{MergerView, ReceiptView}

-- ---- what calls make of a merger

-- with one merge more that is pending
abbrev pub with_merge : MergerView → Merge → MergerView
with_merge m merge = record m { pending = m.pending ++ merge ∷ [] }

-- with the state of a peer's delta pending, and that peer's cursor moved
abbrev pub with_delta : MergerView → ℕ → Delta → MergerView
with_delta m peer d = record m {
  pending = m.pending ++ State d.state ∷ [];
  cursors = taken_from m.cursors peer d;
}

-- with that peer's cursor moved alone
abbrev pub with_cursor : MergerView → ℕ → Delta → MergerView
with_cursor m peer d = record m { cursors = taken_from m.cursors peer d }

-- all that the delta's state has is published
abbrev pub IsKnown : MergerView → Delta → Type 0
IsKnown m d = AtMost d.state (lat (fold_of m.published))

-- a delta that has something that isn't published is appended, and of another the cursor is moved
abbrev pub IsTaken : TakenAs → MergerView → ℕ → Delta → MergerView → Type 0
IsTaken News m peer d n = (¬ IsKnown m d) × (n ≡ with_delta m peer d)
IsTaken Known m peer d n = IsKnown m d × (n ≡ with_cursor m peer d)

-- with all that is pending published as one batch
abbrev pub with_publish : MergerView → MergerView
with_publish m = record m { published = m.published ++ m.pending ∷ []; pending = [] }

-- a call of a merger that wasn't refused
pub data MergerCall : Type 0 where
  Append : Merge → MergerCall
  AppendDelta : ℕ → Delta → MergerCall
  MoveCursor : ℕ → Delta → MergerCall
  Publish : MergerCall

-- what it makes of the merger
abbrev pub after_call : MergerView → MergerCall → MergerView
after_call m (Append merge) = with_merge m merge
after_call m (AppendDelta peer d) = with_delta m peer d
after_call m (MoveCursor peer d) = with_cursor m peer d
after_call m Publish = with_publish m

-- the merges that are handed in by it
abbrev pub handed_by : MergerCall → List Merge
handed_by (Append merge) = merge ∷ []
handed_by (AppendDelta peer d) = State d.state ∷ []
handed_by (MoveCursor peer d) = []
handed_by Publish = []

-- the merges that were published, and behind them those that are pending
abbrev pub merges_with_pending : MergerView → List Merge
merges_with_pending m = merges_of m.published ++ m.pending

-- what a merger tells of its published list
abbrev pub receipt_of : MergerView → ReceiptView
receipt_of m = record { opening = m.opening; batches = m.published }

-- ---- what cursors say

-- the merges of each incarnation of each peer, in order
abbrev pub Histories : Type 0
Histories = ℕ → ℕ → List Merge

-- the delta is one of the first merges of its incarnation of the peer, from some cursor
pub record IsDeltaOf (histories : Histories) (peer : ℕ) (d : Delta) : Type 0 where
  pub count : ℕ
  pub stamped : StampedState
  pub cursor : Option Cursor
  pub merges : IsStamped (take count (histories peer d.incarnation)) stamped
  pub is : d ≡ delta_from stamped cursor

-- the state of all that was published or is pending
abbrev pub state_of : MergerView → Entries
state_of m = state_after (merges_with_pending m)

-- for each held cursor the merger has at least what the first so many merges of that peer's incarnation made
abbrev pub HasReached : Histories → MergerView → Type 0
HasReached histories m = (peer : ℕ) → IfSome (map.get m.cursors peer)
    (λ c. AtMost (state_after (take c.number (histories peer c.incarnation))) (state_of m))
