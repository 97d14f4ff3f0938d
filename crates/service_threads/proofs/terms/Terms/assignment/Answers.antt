use Rattle.std.proofs.Common.{subst}
use Rattle.std.proofs.Math.Logic.{∥∥₁_map}
use Rattle.std.specs.Arc.{arc_value}
use Rattle.service_threads.specs.Jobs.{IsJobOf}
use Rattle.service_threads.proofs.terms.Terms.assignment.Goals as goal

pub new-requires-clause-own : goal.new-requires-clause-own
new-requires-clause-own g c = ∥∥₁_map c.args.self.now.covers
    (λ covers. covers.job c.args.errand c.in_ok-job.job
    (subst (λ place. IsJobOf (arc_value c.args.self.now.settings) place c.in_ok-job.job) c.archive.ensures
    (subst (λ settings. IsJobOf settings c.archive.result c.in_ok-job.job) c.settings.ensures c.in_ok-job.ensures.own)))
