use Rattle.published_index.proofs.Running.{after_answer}
use Rattle.published_index.proofs.laws.answers_never_go_back.Goals as goal

pub returns : goal.returns
returns c = after_answer
