use Rattle.memento_time.proofs.CleanLemmas.{clean_utf8}
use Rattle.timemap_formats.proofs.json_form.as_str.Goals as goal

pub unreachable-requires : goal.unreachable-requires
unreachable-requires c = c.in-Err.ensures.cases.0 (clean_utf8 c.args.text.now c.requires)
