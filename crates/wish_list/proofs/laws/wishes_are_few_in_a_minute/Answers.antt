use Rattle.wish_list.proofs.AllowanceLemmas.{few_in_a_minute}
use Rattle.wish_list.proofs.laws.wishes_are_few_in_a_minute.Goals as goal

pub returns : goal.returns
returns c = few_in_a_minute
