use Rattle.service_ledger.proofs.CallLemmas.{after_take}
use Rattle.service_ledger.proofs.ledgers.Ledger.take_delta.Goals as goal

pub invariant_of-self : goal.invariant_of-self
invariant_of-self g c = record {
  leads = after_take g.P.WalkRules.jobs g.P.WalkRules.answers g.P.WalkRules.faults g.P.Begins.begun c.args.self.now.merger c.take_delta.new.merger c.args.self.now.leads
      c.take_delta.result c.args.number c.args.delta.now c.args.round.now c.take_delta.new.self c.requires c.take_delta.ensures.merger c.take_delta.ensures.fits c.take_delta.ensures.err;
}
