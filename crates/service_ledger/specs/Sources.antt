-- Where what a service knows came from.
use Rattle.std.specs.Prelude.{◌⊎◌, ℕ, List, Contains, All}
use Rattle.harvest_lattice.specs.Knowledge.{Harvested, adds}
use Rattle.harvester.specs.declared.fetches.Answer.{Answer}
use Rattle.harvester.specs.declared.faults.FetchFault.{FetchFault}
use Rattle.harvester.specs.declared.jobs.Job.{Job}
use Rattle.harvest_workers.specs.declared.errands.Errand.{Errand}
use Rattle.replica_exchange.specs.declared.delta.Delta.{Delta}
use Rattle.published_index.specs.Batches.{harvests_of}
use Rattle.published_index.specs.Cursors.{merges_with_pending, state_of}
use Rattle.published_index.specs.Exchanges.{IsMadeOf, published_by}
use Rattle.published_index.specs.Views.{MergerView}
use Rattle.service_ledger.specs.Leads.{IsPart, IsWalked}

-- the harvest stands in what was taken of a peer's answer
pub record IsOfPeer (h : Harvested) : Type 0 where
  pub delta : Delta
  pub part : IsPart delta
  pub has : Contains (adds delta.state) h

-- a harvest that a service was given: by its start, by a walk of a job of its own, or by a peer
abbrev pub IsGiven : (Errand → Job → Type 0) → (List ℕ → Answer → Type 0) → (List ℕ → FetchFault → Type 0)
    → MergerView → Harvested → Type 0
IsGiven jobs answers faults begun h =
    Contains (harvests_of (merges_with_pending begun)) h ⊎ (IsWalked jobs answers faults h ⊎ IsOfPeer h)

-- what is published, and that with what is pending, is made of harvests that were given
pub record HasSources (jobs : Errand → Job → Type 0) (answers : List ℕ → Answer → Type 0)
    (faults : List ℕ → FetchFault → Type 0) (begun m : MergerView) : Type 0 where
  pub harvests : List Harvested
  pub given : All (IsGiven jobs answers faults begun) harvests
  pub published : IsMadeOf harvests (published_by m)
  pub pending : IsMadeOf harvests (state_of m)
