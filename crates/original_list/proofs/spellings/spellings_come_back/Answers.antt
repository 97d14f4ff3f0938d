use Rattle.original_list.proofs.SpellingLemmas.{come_back}
use Rattle.original_list.proofs.spellings.spellings_come_back.Goals as goal

pub returns : goal.returns
returns c = come_back
