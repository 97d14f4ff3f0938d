-- What an offer does, by the outcome.
use Rattle.std.proofs.Common.{◌≡◌, List, [], ◌∷◌, ◌++◌, Result, Ok, Err, MatchResult, IfOk, sym, ap, ◌∙◌, subst}
use Rattle.memento_time.specs.declared.faults.NoMemory.{NoMemory}
use Rattle.published_index.specs.declared.editions.Edition.{Edition}
use Rattle.published_index.specs.declared.editions.Change.{Change}
use Rattle.published_index.specs.declared.editions.Change.TheVariants.{Reach}
use Rattle.published_index.specs.declared.marks.Mark.{Mark}
use Rattle.published_index.specs.declared.marks.LogEntry.{LogEntry}
use Rattle.published_index.specs.declared.marks.LogEntry.TheVariants.{Attempt}
use Rattle.published_index.specs.Changes.{merges_in, batches_of, book_of}
use Rattle.published_index.specs.Marks.{successes, successes_with_last}
use Rattle.published_index.specs.Rule.{Offers}
use Rattle.published_index.proofs.Folding.{changes, merges_in-reach}
use Rattle.published_index.proofs.Ready.{ready, batches_next}

pub offered : (r : Result (Unit {0}) NoMemory) (cs cs' : List Change) (m : Mark) → MatchResult r (λ _. cs' ≡ cs ++ Reach m ∷ []) (λ _. cs' ≡ cs) → merges_in cs' ≡ merges_in cs
offered (Ok o) cs cs' m more = ap merges_in more ∙ merges_in-reach cs m
offered (Err e) cs cs' m same = ap merges_in same

pub offers : (r : Result (Unit {0}) NoMemory) (x : Edition) (log : List LogEntry) (cs cs' : List Change) (m : Mark) → m.seen.book ≡ book_of x → batches_of x ≡ successes log
    → m.seen.log ≡ log ++ Attempt (merges_in cs) ∷ [] → MatchResult r (λ _. cs' ≡ cs ++ Reach m ∷ []) (λ _. cs' ≡ cs)
    → IfOk r (λ _. Offers x cs' m × (successes_with_last m.seen.log ≡ successes log ++ merges_in cs ∷ []))
offers (Ok o) x log cs cs' m book all is more = (
  subst (λ (l : List Change). Offers x l m) (sym more) (ready x log cs m book all is, ap (λ (y : Edition). y.mark) (changes x cs m)),
  batches_next log (merges_in cs) m is,
)
offers (Err e) x log cs cs' m book all is same = tt
