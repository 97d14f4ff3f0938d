use Rattle.harvest_schedule.proofs.Times.{all_heeded}
use Rattle.harvest_schedule.proofs.laws.busy_archives_are_heeded.Goals as goal

pub returns : goal.returns
returns c = all_heeded
