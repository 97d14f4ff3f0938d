use Rattle.snapshots.proofs.ReadingBack.{taken_in}
use Rattle.snapshots.proofs.laws.taking_in_is_joining.Goals as goal

pub returns : goal.returns
returns c = taken_in
