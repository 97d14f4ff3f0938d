use Rattle.std.proofs.Common.{sym}
use Rattle.question_threads.proofs.JobLemmas.{is_job}
use Rattle.question_threads.proofs.terms.job_at.Goals as goal

pub returns-in-Some-clause-own : goal.returns-in-Some-clause-own
returns-in-Some-clause-own c =
    is_job c.job_of.result c.args.sources.now c.args.place c.in-Some.archive.now c.args.original.now
    (sym (rw c.in-Some.is at c.archive_at.ensures)) c.job_of.ensures.archive c.job_of.ensures.original c.job_of.ensures.first
