use Rattle.timegate.proofs.Replies.{reply_from_state}
use Rattle.timegate.proofs.laws.replies_from_state.Goals as goal

pub returns : goal.returns
returns c = reply_from_state
