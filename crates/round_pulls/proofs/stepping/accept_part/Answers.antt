use Rattle.service_ledger.proofs.CallLemmas.{was_stepped}
use Rattle.round_pulls.proofs.stepping.accept_part.Goals as goal

pub sift-requires : goal.sift-requires
sift-requires g c = was_stepped _ c.args.part _ c.in-Ok.ensures.delta c.requires
