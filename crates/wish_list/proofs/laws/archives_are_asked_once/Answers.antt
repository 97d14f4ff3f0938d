use Rattle.wish_list.proofs.StageLemmas.{once}
use Rattle.wish_list.proofs.laws.archives_are_asked_once.Goals as goal

pub returns : goal.returns
returns c = once
