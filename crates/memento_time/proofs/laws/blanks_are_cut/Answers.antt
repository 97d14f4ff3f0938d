use Rattle.memento_time.proofs.TrimLemmas.{trim-IsTrimmed}
use Rattle.memento_time.proofs.laws.blanks_are_cut.Goals as goal

pub returns : goal.returns
returns c = trim-IsTrimmed
