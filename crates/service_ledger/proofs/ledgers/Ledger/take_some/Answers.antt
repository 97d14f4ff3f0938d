use Rattle.service_ledger.proofs.CallLemmas.{after_some}
use Rattle.service_ledger.proofs.ledgers.Ledger.take_some.Goals as goal

pub invariant_of-self : goal.invariant_of-self
invariant_of-self g c = record {
  leads = after_some g.P.WalkRules.jobs g.P.WalkRules.answers g.P.WalkRules.faults g.P.Begins.begun c.args.self.now.merger c.take_some.new.merger c.args.self.now.leads
      c.take_some.result c.args.delta c.args.round.now c.take_some.new.self c.requires c.take_some.ensures.ok c.take_some.ensures.err;
}
