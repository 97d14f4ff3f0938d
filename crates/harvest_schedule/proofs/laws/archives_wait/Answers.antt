use Rattle.harvest_schedule.proofs.Times.{all_wait}
use Rattle.harvest_schedule.proofs.laws.archives_wait.Goals as goal

pub returns : goal.returns
returns c = all_wait
