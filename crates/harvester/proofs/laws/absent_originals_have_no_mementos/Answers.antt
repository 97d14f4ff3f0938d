use Rattle.std.proofs.Common.{◌≡◌, ℕ, List, [], ◌∷◌, length, inr, refl, ap, arith}
use Rattle.std.specs.List.Sorted.{IsStrictlySortedBy}
use Rattle.memento_sets.proofs.Ordered.{items_in_order}
use Rattle.harvester.specs.declared.faults.FetchFault.{FetchFault}
use Rattle.harvester.specs.declared.fetches.Answer.{Answer}
use Rattle.harvester.specs.declared.jobs.Job.{Job}
use Rattle.harvester.specs.Answers.{Says, empty_page, first_url}
use Rattle.harvester.specs.Tries.{Try}
use Rattle.harvester.specs.Tries.Came.{Good}
use Rattle.harvester.specs.Walks.{FewMementos, GoesOn, IsAtItsEnd, IsReached, mementos_of}
use Rattle.harvester.proofs.Closed.{complete}
use Rattle.harvester.proofs.Reach.{few_of_none, reached_more, reached_none}
use Rattle.harvester.proofs.laws.absent_originals_have_no_mementos.Goals as goal

-- the first URL was answered so
abbrev missing : Job → Answer → Try
missing job answer = (first_url job, Good answer empty_page)

says_nothing : (job : Job) (answer : Answer) → answer.status ≡ 404 → Says job (first_url job, answer) empty_page
says_nothing job answer is = inr (record { first = refl; status = is; nothing = refl })

few_of_one : FewMementos (empty_page ∷ [])
unfolding mementos_of IsStrictlySortedBy
few_of_one = omega (arith, ap length (items_in_order [] tt))

starts : (job : Job) → GoesOn job [] (first_url job)
starts job = record { few_urls = omega arith; few_mementos = few_of_none; later = []; next = refl }

reached_first : (faults : List ℕ → FetchFault → Type 0) (job : Job) (answer : Answer) → answer.status ≡ 404 → IsReached faults job (missing job answer ∷ [])
reached_first faults job answer is = reached_more faults job [] (missing job answer) (reached_none faults job) (starts job) (says_nothing job answer is)

ends_at_once : (job : Job) (answer : Answer) → IsAtItsEnd job (missing job answer ∷ [])
ends_at_once job answer = record { few_urls = omega arith; few_mementos = few_of_one; all = refl }

pub returns-clause-complete : goal.returns-clause-complete
returns-clause-complete g c = λ job answer is.
    complete (g.F.Fetch.faults c.args._fetcher.now) job (missing job answer ∷ []) (reached_first (g.F.Fetch.faults c.args._fetcher.now) job answer is) (ends_at_once job answer)

pub returns-clause-whole : goal.returns-clause-whole
returns-clause-whole g c = λ job answer h is of. of.whole.1 refl
