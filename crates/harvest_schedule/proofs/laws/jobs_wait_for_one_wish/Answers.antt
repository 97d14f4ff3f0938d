use Rattle.harvest_schedule.proofs.Share.{all_served}
use Rattle.harvest_schedule.proofs.laws.jobs_wait_for_one_wish.Goals as goal

pub returns : goal.returns
returns c = all_served
