use Rattle.harvest_schedule.proofs.Row.{all_asleep}
use Rattle.harvest_schedule.proofs.laws.failures_in_a_row_make_dormant.Goals as goal

pub returns : goal.returns
returns c = all_asleep
