use Rattle.single_questions.proofs.NameLemmas.{name_utf8}
use Rattle.single_questions.proofs.failings.name_text.Goals as goal

pub unreachable-requires : goal.unreachable-requires
unreachable-requires c = c.in-Err.ensures.cases.0 (name_utf8 c.as_bytes.result.now c.as_bytes.ensures.valid)
