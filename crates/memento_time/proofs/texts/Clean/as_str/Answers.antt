use Rattle.memento_time.proofs.CleanLemmas.{clean_utf8}
use Rattle.memento_time.proofs.texts.Clean.as_str.Goals as goal

pub unreachable-requires : goal.unreachable-requires
unreachable-requires c = c.in-Err.ensures.cases.0 (clean_utf8 c.as_bytes.result.now c.as_bytes.ensures.valid)
