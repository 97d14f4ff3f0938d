use Rattle.timegate.proofs.Replies.{same_harvests}
use Rattle.timegate.proofs.laws.same_harvests_same_reply.Goals as goal

pub returns : goal.returns
returns c = same_harvests
