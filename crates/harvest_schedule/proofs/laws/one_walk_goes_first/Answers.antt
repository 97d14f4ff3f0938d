use Rattle.harvest_schedule.proofs.Times.{all_tried}
use Rattle.harvest_schedule.proofs.laws.one_walk_goes_first.Goals as goal

pub returns : goal.returns
returns c = all_tried
