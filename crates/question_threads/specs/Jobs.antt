-- Which job an archive has for an original, and what it may fetch.
use Rattle.std.specs.Prelude.{◌≡◌, ℕ, ◌++◌, List, Some, IfSome, slice_get, ⊤}
use Rattle.harvester.specs.declared.fetches.Answer.{Answer}
use Rattle.harvester.specs.declared.faults.FetchFault.{FetchFault}
use Rattle.harvester.specs.declared.jobs.Job.{Job}
use Rattle.harvest_workers.specs.Errands.{archive_of}
use Rattle.harvest_workers.specs.declared.errands.Errand.{Errand}
use Rattle.outgoing_requests.specs.Hosts.{IsListedText}
use Rattle.timemap_reader.specs.Answer.{IsShort}
use Rattle.service_settings.specs.declared.sources.Sources.{Sources}
use Rattle.service_settings.specs.declared.archives.Archive.{Archive}

-- The job is that of the archive at a place in the settings, for some original: its first URL is the archive's text
-- with the original behind it.
pub record IsJobOf (sources : Sources) (place : ℕ) (job : Job) : Type 0 where
  pub archive : Archive
  pub listed : slice_get sources.archives.items place ≡ Some archive
  pub name : job.archive ≡ archive.name
  pub first : job.first ≡ archive.timemap ++ job.original

-- by these settings a URL may be answered so: by a short body, and from a listed host if hosts are listed
abbrev pub MayAnswer : Sources → List ℕ → Answer → Type 0
MayAnswer sources url answer =
    IsShort answer.body × IfSome sources.hosts (λ listed. IsListedText listed.items url)

-- rules that allow all jobs of these settings, and whatever may be fetched by them
pub record Covers (sources : Sources) (jobs : Errand → Job → Type 0) (answers : List ℕ → Answer → Type 0)
    (faults : List ℕ → FetchFault → Type 0) : Type 0 where
  pub job : (errand : Errand) (job : Job) → IsJobOf sources (archive_of errand) job → jobs errand job
  pub answer : (url : List ℕ) (answer : Answer) → MayAnswer sources url answer → answers url answer
  pub fault : (url : List ℕ) (fault : FetchFault) → faults url fault

-- the jobs of these settings: each errand has that of its archive
abbrev pub jobs_of : Sources → Errand → Job → Type 0
jobs_of sources errand = IsJobOf sources (archive_of errand)

-- a fetch may end in any fault
abbrev pub any_fault : List ℕ → FetchFault → Type 0
any_fault url fault = ⊤
