use Rattle.published_index.proofs.EventLemmas.{entry_asks}
use Rattle.published_index.proofs.laws.an_entry_is_an_ask.Goals as goal

pub returns : goal.returns
returns c = entry_asks
