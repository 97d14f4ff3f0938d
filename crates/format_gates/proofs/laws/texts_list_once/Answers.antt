use Rattle.format_gates.proofs.OnceLemmas.{lists_once}
use Rattle.format_gates.proofs.laws.texts_list_once.Goals as goal

pub returns : goal.returns
returns c = lists_once
