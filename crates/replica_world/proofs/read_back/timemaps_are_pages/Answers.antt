use Rattle.replica_world.proofs.ReadBack.{read_back}
use Rattle.replica_world.proofs.read_back.timemaps_are_pages.Goals as goal

pub returns : goal.returns
returns c = read_back
