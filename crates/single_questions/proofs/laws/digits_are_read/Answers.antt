use Rattle.single_questions.proofs.DatetimeLemmas.{digits_read}
use Rattle.single_questions.proofs.laws.digits_are_read.Goals as goal

pub returns : goal.returns
returns c = digits_read
