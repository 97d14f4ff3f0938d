-- Records that stand for what a walk fetched.
use Rattle.std.proofs.Common.{ℕ, List, Result, Ok, Err}
use Rattle.std.specs.Prelude.{IfErr, OnOk}
use Rattle.memento_time.specs.declared.mementos.Memento.{Memento}
use Rattle.harvester.specs.declared.faults.FetchFault.{FetchFault}
use Rattle.harvester.specs.declared.faults.WalkFault.{WalkFault}
use Rattle.harvester.specs.declared.fetches.Answer.{Answer}
use Rattle.harvester.specs.declared.jobs.Job.{Job}
use Rattle.harvester.specs.Answers.{Entry}
use Rattle.harvester.specs.Closure.{Lost}
use Rattle.harvester.specs.Steps.{EndsWith, GoesWith, IsUnderWay}
use Rattle.harvester.specs.Walks.{AreGiven, IsOutcome}

-- of a record that stands for these answers
module _ (answers : List ℕ → Answer → Type 0) (faults : List ℕ → FetchFault → Type 0) (stands_for : List Entry → Type 0) (job : Job) (es : List Entry) (kept : stands_for es)
    (lost : List Lost) where
  pub goes_with : (known : List (List ℕ)) (next : ℕ) (ms : List Memento) (r : Result (Unit {0}) WalkFault)
      → OnOk r (IsUnderWay faults job es lost known next ms) → OnOk r (AreGiven answers faults es)
      → OnOk r (GoesWith answers faults stands_for job lost known next ms)
  goes_with known next ms (Ok x) s g = record { entries = es; kept = kept; stands = s; given = g }
  goes_with known next ms (Err e) s g = tt

  pub ends_with : (r : Result (Unit {0}) WalkFault) → IfErr r (λ fault. IsOutcome answers faults job es lost (Err fault))
      → IfErr r (λ fault. EndsWith answers faults stands_for job lost (Err fault))
  ends_with (Ok x) o = tt
  ends_with (Err e) o = record { entries = es; kept = kept; outcome = o }
