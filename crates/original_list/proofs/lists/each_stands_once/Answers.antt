use Rattle.original_list.proofs.ListLemmas.{stand_once}
use Rattle.original_list.proofs.lists.each_stands_once.Goals as goal

pub returns : goal.returns
returns c = stand_once
