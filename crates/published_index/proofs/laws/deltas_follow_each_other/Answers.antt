use Rattle.published_index.proofs.Following.{next_follows, others_stay, own_fits}
use Rattle.published_index.proofs.laws.deltas_follow_each_other.Goals as goal

pub returns-clause-fits : goal.returns-clause-fits
returns-clause-fits c = own_fits

pub returns-clause-next : goal.returns-clause-next
returns-clause-next c = next_follows

pub returns-clause-others : goal.returns-clause-others
returns-clause-others c = others_stay
