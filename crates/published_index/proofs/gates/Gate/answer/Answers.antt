use Rattle.std.proofs.Common.{Result, Ok, Err, IfOk}
use Rattle.timegate.specs.declared.reply.Reply.{Reply}
use Rattle.published_index.specs.declared.faults.GateFault.{GateFault}
use Rattle.published_index.proofs.Agreeing.{taken_reply}
use Rattle.published_index.proofs.gates.Gate.answer.Goals as goal

second : (P : Type 0) (Q : Reply → Type 0) (r : Result Reply GateFault) → IfOk r (λ made. P × Q made) → IfOk r Q
second P Q (Ok made) both = both.1
second P Q (Err fault) both = tt

pub returns-clause-reply : goal.returns-clause-reply
returns-clause-reply c taken = taken_reply c.answer_then.result _ _ _ _ (second _ _ c.answer_then.result c.answer_then.ensures.reply) taken
