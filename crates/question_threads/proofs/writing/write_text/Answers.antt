use Rattle.question_threads.proofs.QueuedLemmas.{write_more}
use Rattle.question_threads.proofs.writing.write_text.Goals as goal

pub loop-rest-preserved : goal.loop-rest-preserved
loop-rest-preserved g c = write_more _ _ _ _ _ _ _ c.loop-rest.invariant c.in-Ok.ensures.bytes c.split_at.ensures.back
