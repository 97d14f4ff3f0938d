use Rattle.harvest_schedule.proofs.Times.{all_paced}
use Rattle.harvest_schedule.proofs.laws.archives_are_paced.Goals as goal

pub returns : goal.returns
returns c = all_paced
