use Rattle.std.proofs.Common.{ℕ, List, Option, None, Some}
use Rattle.timegate.specs.declared.request.Request.{Request}
use Rattle.timegate.specs.declared.reply.Reply.{Reply}
use Rattle.timemap_formats.specs.declared.forms.Form.{Form}
use Rattle.format_gates.specs.Converted.{RepliesBy, form_at}
use Rattle.service_threads.proofs.laws.served_gates_reply_so.Goals as goal

-- what holds of all that a gate inside gives holds of what is made of it
made_of : (P Q : Request → Reply → Type 0) → ((q : Request) (made : Reply) → P q made → Q q made)
    → (asked : Option (Form × List ℕ)) (q : Request) (made : Reply) → RepliesBy P asked q made → RepliesBy Q asked q made
made_of P Q each None q made given = each q made given
made_of P Q each (Some asked) q made given = (given.0, each _ given.0 given.1, given.2)

pub returns : goal.returns
returns g c = λ q made shown.
    let part = c.args.gate.now.gate.gate.gate.gate.gate in
    made_of _ _ (λ q made given. (part.gate, part.named, given)) (form_at _ q.target) q made shown
