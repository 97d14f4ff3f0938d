use Rattle.replica_events.proofs.Replies.{merges_reply, reply_of_merges}
use Rattle.replica_events.proofs.agreement.replies_are_of_merges.Goals as goal

pub returns : goal.returns
returns c base course i r there q said = (merges_reply course i r q said there, reply_of_merges course i r q said there)
