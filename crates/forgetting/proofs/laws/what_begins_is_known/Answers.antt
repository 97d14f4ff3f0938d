use Rattle.forgetting.proofs.RenewingLemmas.{begun_known}
use Rattle.forgetting.proofs.laws.what_begins_is_known.Goals as goal

pub returns : goal.returns
returns c = begun_known
