-- Questions that wait for their answers, and what is written of them.
use Rattle.std.specs.Prelude.{◌≡◌, ℕ, List, ◌∷◌, ◌++◌, [], Option, All, map, drop}
use Rattle.std.specs.List.{flat_map}
use Rattle.std.specs.Io.KnownBytes.{Appends}
use Rattle.harvester.specs.declared.fetches.Answer.{Answer}
use Rattle.harvester.specs.declared.faults.FetchFault.{FetchFault}
use Rattle.harvester.specs.declared.jobs.Job.{Job}
use Rattle.harvest_workers.specs.declared.errands.Errand.{Errand}
use Rattle.single_questions.specs.Gathered.{IsAnswer}
use Rattle.single_questions.specs.declared.wants.Want.{Want}

-- what is asked, below which base TimeMaps name themselves, and the originals that wait, the first of them first
pub record Queued : Type 0 where
  pub want : Want
  pub base : List ℕ
  pub originals : List (List ℕ)

-- an original more, behind the others
abbrev pub with_one : Queued → List ℕ → Queued
with_one queued original = record { want = queued.want; base = queued.base; originals = queued.originals ++ original ∷ [] }

-- what is asked, and below which base TimeMaps name themselves, stays
abbrev pub AsksTheSame : Queued → Queued → Type 0
AsksTheSame before after = (after.want ≡ before.want) × (after.base ≡ before.base)

-- without the first original, if there is one
abbrev pub without_first : Queued → Queued
without_first queued = record { want = queued.want; base = queued.base; originals = drop 1 queued.originals }

-- known bytes grow by a beginning of these
abbrev pub AppendsBeginning : Option (List ℕ) → Option (List ℕ) → List ℕ → Type 0
AppendsBeginning old new bytes = (done : List ℕ) × (left : List ℕ) × (bytes ≡ done ++ left) × Appends old new done

-- which jobs errands have, and what may be fetched: of a URL, answers and faults
module _ (jobs : Errand → Job → Type 0) (answers : List ℕ → Answer → Type 0) (faults : List ℕ → FetchFault → Type 0) where
  -- the text answers a question for the original
  abbrev pub Answers : Want → List ℕ → List ℕ → List ℕ → Type 0
  Answers want base original text = ∥ IsAnswer jobs answers faults want base original text ∥₁

  -- Each text answers a question for the original beside it, and known bytes grow by the texts, one behind the other.
  pub record AreWritten (want : Want) (base : List ℕ) (old new : Option (List ℕ)) : Type 0 where
    pub answered : List (List ℕ × List ℕ)
    pub each : All (λ a. Answers want base a.0 a.1) answered
    pub written : Appends old new (flat_map (λ a. a.1) answered)

  -- The same, and then known bytes grow by a beginning of a text that answers a question for some original.
  pub record AreBegun (want : Want) (base : List ℕ) (old new : Option (List ℕ)) : Type 0 where
    pub between : Option (List ℕ)
    pub whole : AreWritten want base old between
    pub original : List ℕ
    pub text : List ℕ
    pub answer : Answers want base original text
    pub begun : AppendsBeginning between new text

  -- known bytes grow by a text that answers a question for the original
  abbrev pub OneIsWritten : Want → List ℕ → List ℕ → Option (List ℕ) → Option (List ℕ) → Type 0
  OneIsWritten want base original old new = (text : List ℕ) × Answers want base original text × Appends old new text

  -- known bytes grow by a beginning of such a text
  abbrev pub OneIsBegun : Want → List ℕ → List ℕ → Option (List ℕ) → Option (List ℕ) → Type 0
  OneIsBegun want base original old new =
      (text : List ℕ) × Answers want base original text × AppendsBeginning old new text

  -- the first of the questions that wait are answered, in their order, and wait no longer
  pub record Writes (before after : Queued) (old new : Option (List ℕ)) : Type 0 where
    pub answered : List (List ℕ × List ℕ)
    pub each : All (λ a. Answers before.want before.base a.0 a.1) answered
    pub written : Appends old new (flat_map (λ a. a.1) answered)
    pub left : before.originals ≡ map (λ a. a.0) answered ++ after.originals
    pub same : AsksTheSame before after

  -- the text answers the first of the questions that wait
  abbrev pub IsNext : Queued → List ℕ → Type 0
  IsNext queued text =
      (original : List ℕ) × (later : List (List ℕ)) × (queued.originals ≡ original ∷ later)
      × Answers queued.want queued.base original text

  -- the first of the questions that wait are answered, and a beginning of an answer to the next is written
  pub record BreaksOff (before : Queued) (old new : Option (List ℕ)) : Type 0 where
    pub between : Queued
    pub meanwhile : Option (List ℕ)
    pub whole : Writes before between old meanwhile
    pub text : List ℕ
    pub next : IsNext between text
    pub begun : AppendsBeginning meanwhile new text
