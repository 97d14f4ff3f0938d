use Rattle.text_fields.proofs.DecimalLemmas.{number_is}
use Rattle.text_fields.proofs.laws.decimals_are_read_back.Goals as goal

pub returns : goal.returns
returns c = number_is
