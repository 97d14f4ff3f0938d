use Rattle.harvest_schedule.proofs.Row.{all_there}
use Rattle.harvest_schedule.proofs.laws.signs_make_no_archive_dormant.Goals as goal

pub returns : goal.returns
returns c = all_there
