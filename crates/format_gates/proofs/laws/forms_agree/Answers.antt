use Rattle.format_gates.proofs.OnceLemmas.{converted_once, one_in_forms}
use Rattle.format_gates.proofs.laws.forms_agree.Goals as goal

pub returns-clause-once : goal.returns-clause-once
returns-clause-once c = λ _ _ _ _ _. converted_once

pub returns-clause-gates : goal.returns-clause-gates
returns-clause-gates c = one_in_forms
