use Rattle.timegate.proofs.Promises.{head_is_bare}
use Rattle.timegate.proofs.laws.head_is_get_without_body.Goals as goal

pub returns : goal.returns
returns c = head_is_bare
