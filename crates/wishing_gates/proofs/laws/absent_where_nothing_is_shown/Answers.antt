use Rattle.wishing_gates.proofs.Absent.{absent}
use Rattle.wishing_gates.proofs.laws.absent_where_nothing_is_shown.Goals as goal

pub returns : goal.returns
returns c = absent
