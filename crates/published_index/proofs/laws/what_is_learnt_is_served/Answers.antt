use Rattle.published_index.proofs.Folding.{merges_of_prefix, harvests_of_prefix}
use Rattle.published_index.proofs.Handing.{in_the_receipt}
use Rattle.published_index.proofs.Running.{after_learning}
use Rattle.published_index.proofs.laws.what_is_learnt_is_served.Goals as goal

pub returns-clause-front : goal.returns-clause-front
returns-clause-front c = after_learning

pub returns-clause-merges : goal.returns-clause-merges
returns-clause-merges c = merges_of_prefix

pub returns-clause-harvests : goal.returns-clause-harvests
returns-clause-harvests c = harvests_of_prefix

pub returns-clause-published : goal.returns-clause-published
returns-clause-published c = in_the_receipt
