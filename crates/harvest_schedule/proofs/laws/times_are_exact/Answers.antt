use Rattle.harvest_schedule.proofs.Ready.{all_timed}
use Rattle.harvest_schedule.proofs.laws.times_are_exact.Goals as goal

pub returns : goal.returns
returns c = all_timed
