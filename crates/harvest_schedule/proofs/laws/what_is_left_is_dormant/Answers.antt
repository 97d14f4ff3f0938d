use Rattle.harvest_schedule.proofs.Fair.{all_rest}
use Rattle.harvest_schedule.proofs.laws.what_is_left_is_dormant.Goals as goal

pub returns : goal.returns
returns c = all_rest
