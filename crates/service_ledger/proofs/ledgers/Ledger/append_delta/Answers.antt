use Rattle.service_ledger.proofs.CallLemmas.{after_append}
use Rattle.service_ledger.proofs.ledgers.Ledger.append_delta.Goals as goal

pub invariant_of-self : goal.invariant_of-self
invariant_of-self g c = record {
  leads = after_append g.P.WalkRules.jobs g.P.WalkRules.answers g.P.WalkRules.faults g.P.Begins.begun c.args.self.now.merger c.append_delta.new.merger c.args.self.now.leads
      c.append_delta.result c.args.number c.args.delta.now c.args.round.now c.append_delta.new.self c.requires c.append_delta.ensures.ok c.append_delta.ensures.fits c.append_delta.ensures.err;
}
