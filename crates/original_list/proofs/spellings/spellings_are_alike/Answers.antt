use Rattle.original_list.proofs.SpellingLemmas.{are_alike}
use Rattle.original_list.proofs.spellings.spellings_are_alike.Goals as goal

pub returns : goal.returns
returns c = are_alike
