use Rattle.service_ledger.proofs.CallLemmas.{after_kept}
use Rattle.service_ledger.proofs.ledgers.Ledger.take_kept.Goals as goal

pub invariant_of-self : goal.invariant_of-self
invariant_of-self g c = record {
  leads = after_kept g.P.WalkRules.jobs g.P.WalkRules.answers g.P.WalkRules.faults g.P.Begins.begun c.args.self.now.merger c.take.new.merger c.args.self.now.leads
      c.take.result c.args.delta c.args.round.now c.take.new.round c.requires c.take.ensures.taken c.take.ensures.err;
}
