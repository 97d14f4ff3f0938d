use Rattle.service_status.proofs.Reading.{read_back}
use Rattle.service_status.proofs.laws.samples_are_read_back.Goals as goal

pub returns : goal.returns
returns c = read_back
