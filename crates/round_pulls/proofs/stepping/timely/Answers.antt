use Rattle.service_ledger.proofs.CallLemmas.{part_timely}
use Rattle.round_pulls.proofs.stepping.timely.Goals as goal

pub returns-clause-part : goal.returns-clause-part
returns-clause-part g c = part_timely c.last_taken-last.result.0 c.args.delta c.in-Ok.taken.state c.in-Ok.ensures.state c.requires
