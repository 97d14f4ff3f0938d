use Rattle.question_threads.specs.Jobs.{MayAnswer, any_fault, jobs_of}
use Rattle.question_threads.proofs.QueuedLemmas.{on_err, none_begun, none_written}
use Rattle.question_threads.proofs.asking.ask_list.Goals as goal

pub returns-in_err-sources-clause-err : goal.returns-in_err-sources-clause-err
returns-in_err-sources-clause-err g c =
    on_err c.from_residual.result _ (none_begun (jobs_of c.args.sources) (MayAnswer c.args.sources) any_fault c.args.want c.args.sources.base _ _
    (none_written (jobs_of c.args.sources) (MayAnswer c.args.sources) any_fault c.args.want c.args.sources.base _))

pub returns-in_err-list-clause-err : goal.returns-in_err-list-clause-err
returns-in_err-list-clause-err g c =
    on_err c.from_residual-in_err-list.result _ (none_begun (jobs_of c.args.sources) (MayAnswer c.args.sources) any_fault c.args.want c.args.sources.base _ _
    (none_written (jobs_of c.args.sources) (MayAnswer c.args.sources) any_fault c.args.want c.args.sources.base _))
