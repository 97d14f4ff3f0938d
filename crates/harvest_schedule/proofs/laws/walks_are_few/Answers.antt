use Rattle.harvest_schedule.proofs.Fair.{all_few}
use Rattle.harvest_schedule.proofs.laws.walks_are_few.Goals as goal

pub returns : goal.returns
returns c = all_few
