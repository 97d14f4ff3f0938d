use Rattle.memento_index.proofs.Choice.{last-is, last_once}
use Rattle.memento_index.proofs.laws.one_is_last.Goals as goal

pub returns : goal.returns
returns c = record { is = last-is; once = last_once }
