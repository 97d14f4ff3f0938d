use Rattle.harvest_schedule.proofs.Led.{each_is_led}
use Rattle.harvest_schedule.proofs.laws.archives_stand_alone.Goals as goal

pub returns : goal.returns
returns c = each_is_led
