use Rattle.delta_parts.proofs.AskLemmas.{stands}
use Rattle.delta_parts.proofs.laws.parts_stand_at_their_targets.Goals as goal

pub returns : goal.returns
returns c = stands
