use Rattle.service_ledger.proofs.SourceLemmas.{sources}
use Rattle.service_ledger.proofs.laws.what_is_known_was_given.Goals as goal

pub returns : goal.returns
returns g c begun m leads = sources g.P.WalkRules.jobs g.P.WalkRules.answers g.P.WalkRules.faults begun m leads
