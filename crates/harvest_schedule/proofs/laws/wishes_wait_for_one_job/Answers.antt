use Rattle.harvest_schedule.proofs.Share.{all_granted}
use Rattle.harvest_schedule.proofs.laws.wishes_wait_for_one_job.Goals as goal

pub returns : goal.returns
returns c = all_granted
