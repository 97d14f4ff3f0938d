use Rattle.std.proofs.Math.Logic.{∥∥₁_map}
use Rattle.harvest_workers.proofs.Weaker.{weaker}
use Rattle.harvest_workers.proofs.walking.walk_assignment.Goals as goal

pub new-requires-clause-comes : goal.new-requires-clause-comes
new-requires-clause-comes g c =
    ∥∥₁_map c.fetch.ensures
    (λ allows. weaker g.P.WalkRules.answers g.P.WalkRules.faults _ _ allows c.open-errand.result.1 _ _ _ c.harvest_job-walked.ensures)
