use Rattle.harvest_schedule.proofs.Left.{all_counted}
use Rattle.harvest_schedule.proofs.laws.jobs_are_counted.Goals as goal

pub returns : goal.returns
returns c = all_counted
