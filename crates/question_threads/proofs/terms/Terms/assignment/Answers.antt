use Rattle.std.proofs.Common.{subst}
use Rattle.std.proofs.Math.Logic.{∥∥₁_map}
use Rattle.std.specs.Arc.{arc_value}
use Rattle.question_threads.specs.Jobs.{IsJobOf}
use Rattle.question_threads.proofs.terms.Terms.assignment.Goals as goal

pub new-requires-clause-own : goal.new-requires-clause-own
new-requires-clause-own g c = ∥∥₁_map c.args.self.now.covers
    (λ covers. covers.job _ c.in_ok-job.job
    (subst (λ place. IsJobOf (arc_value c.args.self.now.sources) place c.in_ok-job.job) c.archive.ensures
    (subst (λ sources. IsJobOf sources c.archive.result c.in_ok-job.job) c.sources.ensures c.in_ok-job.ensures.own)))
