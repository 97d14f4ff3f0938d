-- The URLs of a job that a walk has tried, and what came of each.
use Rattle.std.specs.Prelude.{◌≢◌, ℕ, List, [], ◌∷◌}
use Rattle.std.specs.List.{flat_map}
use Rattle.timemap_reader.specs.declared.page.Page.{Page}
use Rattle.harvester.specs.declared.faults.FetchFault.{FetchFault}
use Rattle.harvester.specs.declared.faults.WalkFault.{WalkFault}
use Rattle.harvester.specs.declared.faults.WalkFault.TheVariants.{Fetch}
use Rattle.harvester.specs.declared.fetches.Answer.{Answer}
use Rattle.harvester.specs.declared.jobs.Job.{Job}
use Rattle.harvester.specs.Answers.{Entry, FailsBy, Says, first_url}
use Rattle.harvester.specs.Closure.{Lost}

-- what came of a URL: an answer that says a page, an answer that fails by a fault, or none for a fault of the fetch
pub data Came : Type 0 where
  Good : Answer → Page → Came
  Failing : Answer → WalkFault → Came
  Unanswered : FetchFault → Came

-- a URL, and what came of it
abbrev pub Try : Type 0
Try = List ℕ × Came

-- the answer, if there was one
abbrev pub answer_of : List ℕ → Came → List Entry
answer_of url (Good answer page) = (url, answer) ∷ []
answer_of url (Failing answer fault) = (url, answer) ∷ []
answer_of url (Unanswered fault) = []

-- the URL with the fault, if it is lost
abbrev pub loss_of : List ℕ → Came → List Lost
loss_of url (Good answer page) = []
loss_of url (Failing answer fault) = (url, fault) ∷ []
loss_of url (Unanswered fault) = (url, Fetch fault) ∷ []

-- the page, if there was one
abbrev pub page_of : Came → List Page
page_of (Good answer page) = page ∷ []
page_of (Failing answer fault) = []
page_of (Unanswered fault) = []

-- the record: the URLs that were answered with their answers, in order
abbrev pub answers_of : List Try → List Entry
answers_of tries = flat_map (λ t. answer_of t.0 t.1) tries

-- the URLs that are lost with their faults, in order
abbrev pub losses_of : List Try → List Lost
losses_of tries = flat_map (λ t. loss_of t.0 t.1) tries

-- the pages of the good answers, in order
abbrev pub pages_of : List Try → List Page
pages_of tries = flat_map (λ t. page_of t.1) tries

-- what a fetch may give in place of an answer: of a URL, faults
module _ (faults : List ℕ → FetchFault → Type 0) where
  -- This came of the URL: a good answer says its page, and any other fails by its fault. A URL that gives no page is
  -- lost, and the first can't be.
  abbrev pub HasCome : Job → List ℕ → Came → Type 0
  HasCome job url (Good answer page) = Says job (url, answer) page
  HasCome job url (Failing answer fault) = (url ≢ first_url job) × FailsBy job (url, answer) fault
  HasCome job url (Unanswered fault) = (url ≢ first_url job) × faults url fault × (fault ≢ FetchFault.NoMemory)
