-- Which job an archive has for an original, and what it may fetch.
use Rattle.std.specs.Prelude.{◌≡◌, ℕ, ◌++◌, List, Some, IfSome, slice_get}
use Rattle.std.specs.Option.{option_and_then}
use Rattle.harvester.specs.declared.fetches.Answer.{Answer}
use Rattle.harvester.specs.declared.faults.FetchFault.{FetchFault}
use Rattle.harvester.specs.declared.jobs.Job.{Job}
use Rattle.harvest_workers.specs.Errands.{archive_of}
use Rattle.harvest_workers.specs.declared.errands.Errand.{Errand}
use Rattle.outgoing_requests.specs.Hosts.{IsListedText}
use Rattle.outgoing_requests.specs.declared.limits.FetchLimits.{FetchLimits}
use Rattle.timemap_reader.specs.Answer.{IsShort}
use Rattle.service_settings.specs.declared.settings.Settings.{Settings}
use Rattle.service_settings.specs.declared.archives.Archive.{Archive}

-- The job is that of the archive at a place in the settings, for some original: its first URL is the archive's text
-- with the original behind it. Rounds look after originals of their list, and wishes are for any.
pub record IsJobOf (settings : Settings) (place : ℕ) (job : Job) : Type 0 where
  pub archive : Archive
  pub listed : slice_get settings.archives.items place ≡ Some archive
  pub name : job.archive ≡ archive.name
  pub first : job.first ≡ archive.timemap ++ job.original

-- within these limits the archive at a place is walked
pub record AreLimitsAt (settings : Settings) (place : ℕ) (limits : FetchLimits) : Type 0 where
  pub walk : limits.walk ≡ settings.asking.walk
  pub rate : limits.rate ≡ settings.asking.rate
  pub every : limits.every ≡ option_and_then (λ archive. archive.every) (slice_get settings.archives.items place)

-- by these settings a URL may be answered so: by a short body, and from a listed host if hosts are listed
abbrev pub MayAnswer : Settings → List ℕ → Answer → Type 0
MayAnswer settings url answer =
    IsShort answer.body × IfSome settings.hosts (λ listed. IsListedText listed.items url)

-- rules that allow all jobs of these settings, and whatever may be fetched by them
pub record Covers (settings : Settings) (jobs : Errand → Job → Type 0) (answers : List ℕ → Answer → Type 0)
    (faults : List ℕ → FetchFault → Type 0) : Type 0 where
  pub job : (errand : Errand) (job : Job) → IsJobOf settings (archive_of errand) job → jobs errand job
  pub answer : (url : List ℕ) (answer : Answer) → MayAnswer settings url answer → answers url answer
  pub fault : (url : List ℕ) (fault : FetchFault) → faults url fault
