use Rattle.service_ledger.proofs.CallLemmas.{after_walk}
use Rattle.service_ledger.proofs.ledgers.Ledger.append_walked.Goals as goal

pub invariant_of-self : goal.invariant_of-self
invariant_of-self g c = record {
  leads = after_walk g.P.WalkRules.jobs g.P.WalkRules.answers g.P.WalkRules.faults g.P.Begins.begun c.args.self.now.merger c.append.new.self c.args.self.now.leads
      c.append.result c.args.harvest c.requires c.append.ensures.ok c.append.ensures.err;
}
