-- Rules that allow whatever a fetch may give.
use Rattle.std.specs.Prelude.{ℕ, List}
use Rattle.harvester.specs.declared.faults.FetchFault.{FetchFault}
use Rattle.harvester.specs.declared.fetches.Answer.{Answer}

-- the first relations allow whatever the second do
pub record Allows (answers : List ℕ → Answer → Type 0) (faults : List ℕ → FetchFault → Type 0)
    (given : List ℕ → Answer → Type 0) (failed : List ℕ → FetchFault → Type 0) : Type 0 where
  pub answer : (url : List ℕ) (a : Answer) → given url a → answers url a
  pub fault : (url : List ℕ) (f : FetchFault) → failed url f → faults url f
