use Rattle.replica_world.proofs.Reached.{question_writes, question_unchanged, questions_agree}
use Rattle.replica_world.proofs.replaying.laws.same_text_from_both.Goals as goal

pub returns : goal.returns
returns c = record {
  own = λ base world i known taken q text next compared performs. question_writes base world i known q text next taken compared performs;
  unchanged = question_unchanged;
  same = questions_agree;
}
