use Rattle.harvest_schedule.proofs.Row.{all_awake}
use Rattle.harvest_schedule.proofs.laws.few_failures_are_borne.Goals as goal

pub returns : goal.returns
returns c = all_awake
