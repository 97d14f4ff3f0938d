use Rattle.memento_time.proofs.CleanLemmas.{clean_utf8}
use Rattle.single_questions.proofs.failings.original_text.Goals as goal

pub unreachable-requires : goal.unreachable-requires
unreachable-requires c = c.in-Err.ensures.cases.0 (clean_utf8 c.as_bytes.result.now c.as_bytes.ensures.valid.0)
