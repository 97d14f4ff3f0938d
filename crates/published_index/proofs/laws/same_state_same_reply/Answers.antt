use Rattle.timegate.proofs.Replies.{same_reply}
use Rattle.published_index.specs.Batches.{fold_of}
use Rattle.published_index.proofs.laws.same_state_same_reply.Goals as goal

pub returns : goal.returns
returns c base first second q same = same_reply base (fold_of first) (fold_of second) q same
