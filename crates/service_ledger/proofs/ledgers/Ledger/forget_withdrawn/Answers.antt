use Rattle.service_ledger.proofs.CallLemmas.{after_forgetting}
use Rattle.service_ledger.proofs.ledgers.Ledger.forget_withdrawn.Goals as goal

pub invariant_of-self : goal.invariant_of-self
invariant_of-self g c = record {
  leads = after_forgetting g.P.WalkRules.jobs g.P.WalkRules.answers g.P.WalkRules.faults g.P.Begins.begun c.args.self.now.merger c.forget_withdrawn.new.merger c.args.self.now.leads
      c.forget_withdrawn.result c.args.forgetting.now.withdrawn c.args.forgetting.now.listed c.forget_withdrawn.ensures.some c.forget_withdrawn.ensures.none c.forget_withdrawn.ensures.err;
}
