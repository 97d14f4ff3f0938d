use Rattle.text_fields.proofs.FrontLemmas.{front_cut, front_missed, cut_behind}
use Rattle.text_fields.proofs.parts.behind.Goals as goal

pub returns-clause-found : goal.returns-clause-found
returns-clause-found c = front_cut c.args.front.now c.args.text.now c.strip_prefix.result c.strip_prefix.ensures.cases

pub returns-clause-none : goal.returns-clause-none
returns-clause-none c = front_missed c.args.front.now c.args.text.now c.strip_prefix.result c.strip_prefix.ensures.cases

pub returns-clause-rest : goal.returns-clause-rest
returns-clause-rest c = cut_behind c.args.front.now c.args.text.now c.strip_prefix.result c.strip_prefix.ensures.cases
