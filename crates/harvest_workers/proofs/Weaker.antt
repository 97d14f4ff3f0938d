-- An outcome under relations is one under all that allow more.
use Rattle.std.proofs.Common.{⊎_elim, inl, inr, ℕ, List, Option, Result, Ok, Err}
use Rattle.harvest_lattice.specs.Knowledge.{Harvested}
use Rattle.harvester.specs.declared.faults.FetchFault.{FetchFault}
use Rattle.harvester.specs.declared.faults.WalkFault.{WalkFault}
use Rattle.harvester.specs.declared.faults.WalkFault.TheVariants.{Fetch, Status, Encoded, Page as NoPage, TooManyPages}
use Rattle.harvester.specs.declared.faults.WalkFault.TheVariants.{TooManyMementos, NoMemory}
use Rattle.harvester.specs.declared.fetches.Answer.{Answer}
use Rattle.harvester.specs.declared.jobs.Job.{Job}
use Rattle.harvester.specs.Answers.{Entry}
use Rattle.harvester.specs.Closure.{IsComplete, IsLost, IsUnanswered, Lost}
use Rattle.harvester.specs.Tries.{Came, Good, Failing, Unanswered, HasCome, Try}
use Rattle.harvester.specs.Walks.{EndsIn, IsReached}
use Rattle.harvest_workers.specs.Allowing.{Allows}
use Rattle.harvester.specs.Unkept.{Comes}

came : (faults failed : List ℕ → FetchFault → Type 0) → ((url : List ℕ) (f : FetchFault) → failed url f → faults url f)
    → (job : Job) (url : List ℕ) (c : Came) → HasCome failed job url c → HasCome faults job url c
came faults failed more job url (Good answer page) h = h
came faults failed more job url (Failing answer fault) h = h
came faults failed more job url (Unanswered fault) h = (h.0, more url fault h.1, h.2)

reached : (faults failed : List ℕ → FetchFault → Type 0) → ((url : List ℕ) (f : FetchFault) → failed url f → faults url f)
    → (job : Job) (tries : List Try) → IsReached failed job tries → IsReached faults job tries
reached faults failed more job tries h before t after is =
    let p = h before t after is in (p.0, came faults failed more job t.0 t.1 p.1)

unanswered : (faults failed : List ℕ → FetchFault → Type 0) → ((url : List ℕ) (f : FetchFault) → failed url f → faults url f)
    → (url : List ℕ) (fault : WalkFault) → IsUnanswered failed url fault → IsUnanswered faults url fault
unanswered faults failed more url fault h = (h.0, h.1, more url h.0 h.2, h.3)

lost : (faults failed : List ℕ → FetchFault → Type 0) → ((url : List ℕ) (f : FetchFault) → failed url f → faults url f)
    → (job : Job) (entries : List Entry) (l : Lost) → IsLost failed job entries l → IsLost faults job entries l
lost faults failed more job entries l h = ⊎_elim (λ a. inl a) (λ b. inr (b.0, unanswered faults failed more l.0 l.1 b.1)) h

complete : (faults failed : List ℕ → FetchFault → Type 0) → ((url : List ℕ) (f : FetchFault) → failed url f → faults url f)
    → (job : Job) (entries : List Entry) (losses : List Lost) → IsComplete failed job entries losses
    → IsComplete faults job entries losses
complete faults failed more job entries losses h = record {
  answered_once = h.answered_once;
  lost_once = h.lost_once;
  closed = h.closed;
  few = h.few;
  first = h.first;
  good = h.good;
  fails = λ l in'. lost faults failed more job entries l (h.fails l in');
}

ends : (answers given : List ℕ → Answer → Type 0) (faults failed : List ℕ → FetchFault → Type 0)
    → ((url : List ℕ) (f : FetchFault) → failed url f → faults url f)
    → (job : Job) (tries : List Try) (unread : List Entry) (result : Result Harvested WalkFault)
    → EndsIn given failed job tries unread result → EndsIn answers faults job tries unread result
ends answers given faults failed more job tries unread (Ok h) e = (e.0, complete faults failed more job _ _ e.1, e.2)
ends answers given faults failed more job tries unread (Err (Fetch f)) e = (e.0, e.1, more _ f e.2, e.3)
ends answers given faults failed more job tries unread (Err (Status s)) e = e
ends answers given faults failed more job tries unread (Err Encoded) e = e
ends answers given faults failed more job tries unread (Err (NoPage f)) e = e
ends answers given faults failed more job tries unread (Err TooManyPages) e = e
ends answers given faults failed more job tries unread (Err TooManyMementos) e = e
ends answers given faults failed more job tries unread (Err NoMemory) e = e

pub weaker : (answers : List ℕ → Answer → Type 0) (faults : List ℕ → FetchFault → Type 0)
    (given : List ℕ → Answer → Type 0) (failed : List ℕ → FetchFault → Type 0) → Allows answers faults given failed
    → (job : Job) (now : ℕ) (result : Result Harvested WalkFault) (asked : Option ℕ)
    → Comes given failed job now result asked → Comes answers faults job now result asked
weaker answers faults given failed allows job now result asked c = record {
  entries = c.entries;
  lost = c.lost;
  outcome = record {
    tries = c.outcome.tries;
    unread = c.outcome.unread;
    reached = reached faults failed allows.fault job c.outcome.tries c.outcome.reached;
    fetched = c.outcome.fetched;
    losses = c.outcome.losses;
    given = λ e in'. allows.answer e.0 e.1 (c.outcome.given e in');
    ends = ends answers given faults failed allows.fault job c.outcome.tries c.outcome.unread result c.outcome.ends;
  };
  patience = c.patience;
}
