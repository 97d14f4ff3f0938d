use Rattle.service_ledger.proofs.CallLemmas.{after_forgetting}
use Rattle.service_ledger.proofs.ledgers.Ledger.begin.Goals as goal

pub invariant_of-self : goal.invariant_of-self
invariant_of-self g c = record {
  leads = after_forgetting g.P.WalkRules.jobs g.P.WalkRules.answers g.P.WalkRules.faults g.P.Begins.begun c.args.self.now.merger c.begin.new.merger c.args.self.now.leads
      c.begin.result c.begin.new.self.withdrawn c.begin.new.self.listed c.begin.ensures.some c.begin.ensures.none c.begin.ensures.err;
}
