-- What a service may make of its merger.
use Rattle.std.specs.Prelude.{◌≡◌, ℕ, true, List, [], Option, Ok}
use Rattle.std.specs.FinMap as map
use Rattle.harvest_lattice.specs.Knowledge.{Harvested}
use Rattle.memento_index.specs.declared.merge.Merge.TheVariants.{Harvest, State}
use Rattle.harvester.specs.declared.fetches.Answer.{Answer}
use Rattle.harvester.specs.declared.faults.FetchFault.{FetchFault}
use Rattle.harvester.specs.declared.jobs.Job.{Job}
use Rattle.harvester.specs.Unkept.{Comes}
use Rattle.harvest_workers.specs.declared.errands.Errand.{Errand}
use Rattle.replica_exchange.specs.declared.delta.Delta.{Delta}
use Rattle.replica_exchange.specs.CursorRule.{fits}
use Rattle.outgoing_requests.specs.Pulls.{IsBrought, IsPartBrought}
use Rattle.delta_parts.specs.declared.part.Part.{Part}
use Rattle.delta_parts.specs.declared.walk.Walk.{Walk}
use Rattle.delta_parts.specs.PartRule.{walk_end}
use Rattle.published_index.specs.Cursors.{IsKnown, with_cursor, with_delta, with_merge, with_publish}
use Rattle.published_index.specs.Views.{MergerView}
use Rattle.retention.specs.Restriction.{Rule, restrict}
use Rattle.round_values.specs.Ahead.{taken}
use Rattle.forgetting.specs.Renewing.{Forgets}

-- a merger that has got nothing, of the first opening
abbrev pub nothing : MergerView
nothing = record { opening = record { number = 0; log_name = 0; cells_name = 0 }; published = []; pending = []; cursors = map.empty }

-- The harvest came of a walk of an errand's job: an outcome of that very job, by answers that may be fetched.
pub record IsWalked (jobs : Errand → Job → Type 0) (answers : List ℕ → Answer → Type 0)
    (faults : List ℕ → FetchFault → Type 0) (h : Harvested) : Type 0 where
  pub errand : Errand
  pub job : Job
  pub begun : ℕ
  pub asked : Option ℕ
  pub own : ∥ jobs errand job ∥₁
  pub comes : ∥ Comes answers faults job begun (Ok h) asked ∥₁

-- A delta that an answer of a peer brought; what such a part of one brought, with the merges of which the walk over the
-- parts tells; or what is taken of such a delta: what a rule keeps of its state, or what isn't ahead of a second.
pub data IsPart : Delta → Type 0 where
  brought : (d : Delta) → IsBrought d → IsPart d
  stepped : (w : Option Walk) (p : Part) → IsPartBrought p → IsPart (walk_end w p)
  kept : (keeps : Rule) (d : Delta) → IsPart d → IsPart (record d { state = restrict keeps d.state })
  timely : (last : ℕ) (d : Delta) → IsPart d → IsPart (record d { state = taken last d.state })

-- What a service may make of the merger with which it began, call by call: a harvest of a walk of its own is appended;
-- what is taken of a peer's answer is appended, and the peer's cursor moves only by a delta that follows on it;
-- what is pending is published; and what a rule doesn't keep is forgotten.
pub data Leads (jobs : Errand → Job → Type 0) (answers : List ℕ → Answer → Type 0)
    (faults : List ℕ → FetchFault → Type 0) (begun : MergerView) : MergerView → Type 0 where
  begins : Leads jobs answers faults begun begun
  walked : (m : MergerView) (h : Harvested) → Leads jobs answers faults begun m → IsWalked jobs answers faults h
      → Leads jobs answers faults begun (with_merge m (Harvest h))
  takes : (m : MergerView) (d : Delta) → Leads jobs answers faults begun m → IsPart d
      → Leads jobs answers faults begun (with_merge m (State d.state))
  follows : (m : MergerView) (peer : ℕ) (d : Delta) → Leads jobs answers faults begun m → IsPart d
      → fits (map.get m.cursors peer) d ≡ true → Leads jobs answers faults begun (with_delta m peer d)
  moves : (m : MergerView) (peer : ℕ) (d : Delta) → Leads jobs answers faults begun m → IsPart d
      → fits (map.get m.cursors peer) d ≡ true → IsKnown m d → Leads jobs answers faults begun (with_cursor m peer d)
  publishes : (m : MergerView) → Leads jobs answers faults begun m → Leads jobs answers faults begun (with_publish m)
  forgets : (keeps : Rule) (m n : MergerView) → Leads jobs answers faults begun m → Forgets keeps m n
      → Leads jobs answers faults begun n
