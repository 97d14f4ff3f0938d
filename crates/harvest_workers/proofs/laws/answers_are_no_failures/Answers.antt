use Rattle.harvest_workers.proofs.Fairness.{are_fair}
use Rattle.harvest_workers.proofs.laws.answers_are_no_failures.Goals as goal

pub returns : goal.returns
returns c = are_fair
