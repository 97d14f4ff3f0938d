use Rattle.std.proofs.KnownBytes.{Appends-nil}
use Rattle.question_threads.specs.Jobs.{MayAnswer, any_fault, jobs_of}
use Rattle.question_threads.proofs.QueuedLemmas.{on_err, one_unbegun}
use Rattle.question_threads.proofs.asking.ask_one.Goals as goal

pub returns-in_err-sources-clause-err : goal.returns-in_err-sources-clause-err
returns-in_err-sources-clause-err g c =
    on_err c.from_residual.result _ (one_unbegun (jobs_of c.args.sources) (MayAnswer c.args.sources) any_fault c.args.want c.args.sources.base c.args.original _ _
    (Appends-nil _))
