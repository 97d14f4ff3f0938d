use Rattle.timegate.proofs.Deltas.{delta_asked}
use Rattle.timegate.proofs.laws.deltas_stand_at_their_cursors.Goals as goal

pub returns : goal.returns
returns c = delta_asked
