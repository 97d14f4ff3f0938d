-- What a gate shows, and what becomes of it.
use Rattle.std.specs.Prelude.{◌≡◌, ◌⊎◌, []}
use mathlib.Core.List.{IsPrefix}
use Rattle.timegate.specs.declared.request.Request.{Request}
use Rattle.timegate.specs.declared.reply.Reply.{Reply}
use Rattle.published_index.specs.Views.{GateView}
use Rattle.published_index.specs.Replies.{IsReplyFrom}

-- the reply is made from all that the gate has seen or was told
pub record Shows (gate : GateView) (request : Request) (made : Reply) : Type 0 where
  pub from : IsReplyFrom gate.base gate.incarnation gate.pass.front request made
  pub settled : gate.pass.told ≡ []

-- the same gate later: it has seen what it had seen, and has seen or still knows of what it was told
pub record GoesOn (old new : GateView) : Type 0 where
  pub opening : new.opening ≡ old.opening
  pub incarnation : new.incarnation ≡ old.incarnation
  pub base : new.base ≡ old.base
  pub seen : IsPrefix old.pass.front new.pass.front
  pub told : IsPrefix old.pass.told new.pass.front ⊎ IsPrefix old.pass.told new.pass.told
