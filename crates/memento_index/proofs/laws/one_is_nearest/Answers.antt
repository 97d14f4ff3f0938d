use Rattle.memento_index.proofs.Choice.{nearest-is, nearest_once}
use Rattle.memento_index.proofs.laws.one_is_nearest.Goals as goal

pub returns : goal.returns
returns c = record { is = nearest-is; once = nearest_once }
