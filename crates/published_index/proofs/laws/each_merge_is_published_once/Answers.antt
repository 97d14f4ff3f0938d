use Rattle.published_index.proofs.Handing.{all_published, handed, stays_at_start}
use Rattle.published_index.proofs.laws.each_merge_is_published_once.Goals as goal

pub returns-clause-handed : goal.returns-clause-handed
returns-clause-handed c = handed

pub returns-clause-published : goal.returns-clause-published
returns-clause-published c = all_published

pub returns-clause-start : goal.returns-clause-start
returns-clause-start c = stays_at_start
