use Rattle.service_ledger.proofs.CallLemmas.{after_pull}
use Rattle.service_ledger.proofs.ledgers.Ledger.pull.Goals as goal

pub invariant_of-self : goal.invariant_of-self
invariant_of-self g c = record {
  leads = after_pull g.P.WalkRules.jobs g.P.WalkRules.answers g.P.WalkRules.faults g.P.Begins.begun c.args.self.now.merger c.pull.new.merger c.args.self.now.leads
      c.pull.result c.args.number c.args.round.now c.pull.new.self c.pull.ensures.ok c.pull.ensures.err;
}
