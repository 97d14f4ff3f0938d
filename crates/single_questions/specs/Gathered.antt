-- What is known of an original that was asked for: the state of what walks for it gave.
use Rattle.std.specs.Prelude.{◌≡◌, ℕ, List, [], ◌∷◌, Option, Result, Ok, Err, All}
use Rattle.harvest_lattice.specs.Knowledge.{Harvested, lat, shown}
use Rattle.harvest_lattice.specs.Lattice.{Entries, join}
use Rattle.harvester.specs.declared.fetches.Answer.{Answer}
use Rattle.harvester.specs.declared.faults.FetchFault.{FetchFault}
use Rattle.harvester.specs.declared.faults.WalkFault.{WalkFault}
use Rattle.harvester.specs.declared.jobs.Job.{Job}
use Rattle.harvester.specs.Unkept.{Comes}
use Rattle.harvest_workers.specs.declared.errands.Errand.{Errand}
use Rattle.single_questions.specs.Wants.{answer_text}
use Rattle.single_questions.specs.declared.wants.Want.{Want}

-- which jobs errands have, and what may be fetched: of a URL, answers and faults
module _ (jobs : Errand → Job → Type 0) (answers : List ℕ → Answer → Type 0) (faults : List ℕ → FetchFault → Type 0) where
  -- the harvest came of a walk of an archive's job for the original
  pub record IsWalked (original : List ℕ) (h : Harvested) : Type 0 where
    pub errand : Errand
    pub job : Job
    pub begun : ℕ
    pub asked : Option ℕ
    pub own : ∥ jobs errand job ∥₁
    pub is_for : job.original ≡ original
    pub comes : ∥ Comes answers faults job begun (Ok h) asked ∥₁

  -- what is known is the state of such harvests
  pub record IsGathered (original : List ℕ) (known : Entries) : Type 0 where
    pub harvests : List Harvested
    pub walked : All (IsWalked original) harvests
    pub state : known ≡ lat harvests

  -- The text answers the question by the mementos that such harvests show, and by no others.
  pub record IsAnswer (want : Want) (base original text : List ℕ) : Type 0 where
    pub harvests : List Harvested
    pub walked : All (IsWalked original) harvests
    pub text_is : text ≡ answer_text want base original (shown harvests original)

-- what is known once a walk has ended
abbrev pub known_after : Result Harvested WalkFault → Entries → Entries
known_after (Ok h) known = join known (lat (h ∷ []))
known_after (Err fault) known = known
