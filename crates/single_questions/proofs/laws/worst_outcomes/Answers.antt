use Rattle.single_questions.proofs.OutcomeLemmas.{worst}
use Rattle.single_questions.proofs.laws.worst_outcomes.Goals as goal

pub returns : goal.returns
returns c = worst
