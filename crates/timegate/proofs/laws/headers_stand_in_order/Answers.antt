use Rattle.timegate.proofs.Promises.{in_order}
use Rattle.timegate.proofs.laws.headers_stand_in_order.Goals as goal

pub returns : goal.returns
returns c = in_order
