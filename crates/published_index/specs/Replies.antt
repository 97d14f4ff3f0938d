-- The replies that are made from a front.
use Rattle.std.specs.Prelude.{◌≡◌, ℕ, List}
use Rattle.std.specs.declared.vec.Vec.{Vec}
use Rattle.std.specs.declared.alloc.Global.{Global}
use Rattle.replica_exchange.specs.Stamps.{StampedState, IsStamped}
use Rattle.timegate.specs.declared.request.Request.{Request}
use Rattle.timegate.specs.declared.reply.Reply.{Reply}
use Rattle.timegate.specs.Reply.{reply_of}
use Rattle.delta_parts.specs.declared.asks.PartAsk.{PartAsk}
use Rattle.delta_parts.specs.Asks.{cursor_of, place_of}
use Rattle.delta_parts.specs.PartText.{IsTextFrom}
use Rattle.published_index.specs.Batches.{Batch, merges_of}

-- made by one that made of the front's merges, in this incarnation, its state and stamps
pub record IsMadeFrom {A : Type 0} (is_made : StampedState → A → Type 0) (incarnation : ℕ) (front : List Batch) (made : A)
    : Type 0 where
  pub stamped : StampedState
  pub merges : IsStamped (merges_of front) stamped
  pub own : stamped.incarnation ≡ incarnation
  pub is : is_made stamped made

-- the reply to a request
abbrev pub IsReplyFrom : List ℕ → ℕ → List Batch → Request → Reply → Type 0
IsReplyFrom base incarnation front q made = IsMadeFrom (λ s r. r ≡ reply_of base s q) incarnation front made

-- the text of a part of a delta
abbrev pub IsPartFrom : ℕ → List Batch → PartAsk → Vec ℕ Global → Type 0
IsPartFrom incarnation front ask text =
    IsMadeFrom (λ s made. IsTextFrom made.items s (cursor_of ask) (place_of ask)) incarnation front text
