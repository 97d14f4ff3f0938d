-- The replies of a gate that also answers with parts of deltas.
use Rattle.std.specs.Prelude.{◌≡◌, ◌⊎◌, ℕ, List, []}
use Rattle.std.specs.declared.vec.Vec.{Vec}
use Rattle.std.specs.declared.alloc.Global.{Global}
use Rattle.timegate.specs.declared.request.Request.{Request}
use Rattle.timegate.specs.declared.reply.Reply.{Reply}
use Rattle.timegate.specs.Reply.{peer_reply}
use Rattle.delta_parts.specs.declared.asks.PartAsk.{PartAsk}
use Rattle.delta_parts.specs.Asks.{Names}
use Rattle.published_index.specs.Views.{GateView}
use Rattle.published_index.specs.Replies.{IsPartFrom}
use Rattle.gate_server.specs.Gates.{Shows}

-- the text of the part that the target names, made from all that the gate has seen or was told
pub record ShowsPart (gate : GateView) (q : Request) (made : Reply) : Type 0 where
  pub ask : PartAsk
  pub named : Names q.target ask
  pub text : Vec ℕ Global
  pub part : IsPartFrom gate.incarnation gate.pass.front ask text
  pub is : made ≡ peer_reply q text.items
  pub settled : gate.pass.told ≡ []

-- a reply of the gate, or a part
abbrev pub ShowsReplyOrPart : GateView → Request → Reply → Type 0
ShowsReplyOrPart gate q made = Shows gate q made ⊎ ShowsPart gate q made

-- the same of some gate of this base
abbrev pub IsReplyOrPartOf : List ℕ → Request → Reply → Type 0
IsReplyOrPartOf base q made = (gate : GateView) × (gate.base ≡ base) × ShowsReplyOrPart gate q made
