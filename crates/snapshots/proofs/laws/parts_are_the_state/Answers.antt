use Rattle.snapshots.proofs.Cutting.{cut_joined}
use Rattle.snapshots.proofs.laws.parts_are_the_state.Goals as goal

pub returns : goal.returns
returns c = cut_joined
