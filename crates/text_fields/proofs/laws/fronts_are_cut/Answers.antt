use Rattle.text_fields.proofs.FrontLemmas.{fronts_are}
use Rattle.text_fields.proofs.laws.fronts_are_cut.Goals as goal

pub returns : goal.returns
returns c = fronts_are
