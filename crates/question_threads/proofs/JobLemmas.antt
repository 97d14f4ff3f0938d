-- What is made for an archive of the settings is its job.
use Rattle.std.proofs.Common.{◌≡◌, ◌++◌, ℕ, List, Some, Result, Ok, Err, IfOk, sym, subst}
use Rattle.std.specs.Prelude.{slice_get}
use Rattle.harvester.specs.declared.jobs.Job.{Job}
use Rattle.service_settings.specs.declared.archives.Archive.{Archive}
use Rattle.service_settings.specs.declared.sources.Sources.{Sources}
use Rattle.question_threads.specs.Jobs.{IsJobOf}

pub is_job : {E : Type 0} (made : Result Job E) (sources : Sources) (place : ℕ) (archive : Archive) (original : List ℕ)
    → slice_get sources.archives.items place ≡ Some archive → IfOk made (λ job. job.archive ≡ archive.name)
    → IfOk made (λ job. job.original ≡ original) → IfOk made (λ job. job.first ≡ archive.timemap ++ original)
    → IfOk made (IsJobOf sources place)
is_job (Ok job) sources place archive original listed name is_for first = record {
  archive = archive;
  listed = listed;
  name = name;
  first = subst (λ text. job.first ≡ archive.timemap ++ text) (sym is_for) first;
}
is_job (Err refused) sources place archive original listed name is_for first = tt
