-- How contracts see a merger, a gate and a receipt.
use Rattle.std.specs.Prelude.{ℕ, List}
use Rattle.std.specs.Coded.{Coded, coded_ℕ}
use Rattle.std.specs.FinMap as map
use Rattle.replica_exchange.specs.CursorRule.{Held, coded_cursor}
use Rattle.published_index.specs.declared.views.Opening.{Opening}
use Rattle.published_index.specs.Batches.{Batch}
use Rattle.published_index.specs.Passes.{Pass, empty_pass}

-- cursors as a list of pairs
abbrev pub coded_held : Coded Held
coded_held = map.code coded_ℕ coded_cursor

-- of which opening it is, the batches that it published, the merges that are pending, and the cursor held for each peer
pub record MergerView : Type 0 where
  pub opening : Opening
  pub published : List Batch
  pub pending : Batch
  pub cursors : Held

-- of which opening it is and in which incarnation, the base of its service, and its pass
pub record GateView : Type 0 where
  pub opening : Opening
  pub incarnation : ℕ
  pub base : List ℕ
  pub pass : Pass

-- of which opening it is, and the list that it tells
pub record ReceiptView : Type 0 where
  pub opening : Opening
  pub batches : List Batch

-- a gate that has seen nothing
abbrev pub new_gate : Opening → ℕ → List ℕ → GateView
new_gate opening incarnation base = record {
  opening = opening;
  incarnation = incarnation;
  base = base;
  pass = empty_pass;
}
