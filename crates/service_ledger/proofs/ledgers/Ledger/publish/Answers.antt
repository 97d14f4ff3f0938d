use Rattle.service_ledger.proofs.CallLemmas.{after_publish}
use Rattle.service_ledger.proofs.ledgers.Ledger.publish.Goals as goal

pub invariant_of-self : goal.invariant_of-self
invariant_of-self g c = record {
  leads = after_publish g.P.WalkRules.jobs g.P.WalkRules.answers g.P.WalkRules.faults g.P.Begins.begun c.args.self.now.merger c.publish.new.merger c.args.self.now.leads
      c.publish.new.self.published c.publish.ensures.published c.publish.ensures.refused;
}
