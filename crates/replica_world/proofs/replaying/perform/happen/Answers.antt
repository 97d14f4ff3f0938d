use Rattle.std.proofs.Common.{ℕ, List}
use Rattle.replica_world.proofs.Happenings.{happened_if}
use Rattle.replica_world.proofs.replaying.perform.happen.Goals as goal

pub returns : goal.returns
returns c = happened_if (λ (text : List ℕ). text) _ _ _ _ _ _ c.step-answer.ensures.steps c.answer_text.ensures.text c.answer_text.ensures.memory
