-- Walks of which no record is kept.
use Rattle.std.specs.Prelude.{ℕ, List, Option, Result}
use Rattle.harvest_lattice.specs.Knowledge.{Harvested}
use Rattle.harvester.specs.declared.faults.FetchFault.{FetchFault}
use Rattle.harvester.specs.declared.faults.WalkFault.{WalkFault}
use Rattle.harvester.specs.declared.fetches.Answer.{Answer}
use Rattle.harvester.specs.declared.jobs.Job.{Job}
use Rattle.harvester.specs.Answers.{Entry}
use Rattle.harvester.specs.Closure.{Lost}
use Rattle.harvester.specs.Patience.{IsLongestAsked}
use Rattle.harvester.specs.Walks.{IsOutcome}

-- What may come of a job if its record isn't kept: with some record and some lost URLs the result is an outcome of
-- the job, and the patience is what the answers of that very record ask for.
pub record Comes (answers : List ℕ → Answer → Type 0) (faults : List ℕ → FetchFault → Type 0) (job : Job) (now : ℕ)
    (result : Result Harvested WalkFault) (asked : Option ℕ) : Type 0 where
  pub entries : List Entry
  pub lost : List Lost
  pub outcome : IsOutcome answers faults job entries lost result
  pub patience : IsLongestAsked now entries asked
