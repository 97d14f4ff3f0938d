use Rattle.service_ledger.proofs.CallLemmas.{at_start}
use Rattle.service_ledger.proofs.ledgers.Ledger.new.Goals as goal

pub invariant_of-result : goal.invariant_of-result
invariant_of-result g c = record {
  leads = at_start g.P.WalkRules.jobs g.P.WalkRules.answers g.P.WalkRules.faults g.P.Begins.begun c.args.merger c.requires;
}
