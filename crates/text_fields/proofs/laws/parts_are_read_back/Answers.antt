use Rattle.text_fields.proofs.PartLemmas.{parts_are}
use Rattle.text_fields.proofs.laws.parts_are_read_back.Goals as goal

pub returns : goal.returns
returns c = parts_are
