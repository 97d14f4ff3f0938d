use Rattle.round_values.proofs.Pauses.{pauses_are_whole}
use Rattle.round_values.proofs.laws.pauses_are_whole.Goals as goal

pub returns : goal.returns
returns c = pauses_are_whole
