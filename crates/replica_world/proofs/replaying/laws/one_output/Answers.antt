use Rattle.replica_world.proofs.Once.{output_once}
use Rattle.replica_world.proofs.Outputs.{some_output}
use Rattle.replica_world.proofs.replaying.laws.one_output.Goals as goal

pub returns : goal.returns
returns c = record { once = output_once c.one_page.ensures; some = some_output }
