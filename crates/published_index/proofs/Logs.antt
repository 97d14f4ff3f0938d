-- What a log of tries keeps.
use Rattle.std.proofs.Common.{◌≡◌, ⊎_elim, ◌+◌, ◌≤◌, List, [], ◌∷◌, ◌++◌, length, refl, ap, sym, subst}
use mathlib.Core.List.{IsPrefix}
use Rattle.published_index.specs.declared.marks.LogEntry.{LogEntry}
use Rattle.published_index.specs.declared.marks.LogEntry.TheVariants.{Attempt, Success}
use Rattle.published_index.specs.Batches.{Batch}
use Rattle.published_index.specs.Marks.{successes, successes_with_last}
use Rattle.published_index.proofs.Fronts.{prefix_self, prefix_cons, prefix_trans, prefix_shorter, prefix_or_next}

-- a try alone keeps nothing more
pub successes-attempt : (log : List LogEntry) (b : Batch) → successes (log ++ Attempt b ∷ []) ≡ successes log
successes-attempt [] b = refl
successes-attempt (Success ∷ log) b = successes-attempt log b
successes-attempt (Attempt a ∷ []) b = refl
successes-attempt (Attempt a ∷ Success ∷ log) b = ap (λ (l : List Batch). a ∷ l) (successes-attempt log b)
successes-attempt (Attempt a ∷ Attempt c ∷ log) b = successes-attempt (Attempt c ∷ log) b

-- a try that is successes is one batch more
pub successes_with_last-attempt : (log : List LogEntry) (b : Batch) → successes_with_last (log ++ Attempt b ∷ []) ≡ successes log ++ b ∷ []
successes_with_last-attempt [] b = refl
successes_with_last-attempt (Success ∷ log) b = successes_with_last-attempt log b
successes_with_last-attempt (Attempt a ∷ []) b = refl
successes_with_last-attempt (Attempt a ∷ Success ∷ log) b = ap (λ (l : List Batch). a ∷ l) (successes_with_last-attempt log b)
successes_with_last-attempt (Attempt a ∷ Attempt c ∷ log) b = successes_with_last-attempt (Attempt c ∷ log) b

-- what was successes stays
pub successes-append : (log more : List LogEntry) → IsPrefix (successes log) (successes (log ++ more))
successes-append [] more = (successes more, refl)
successes-append (Success ∷ log) more = successes-append log more
successes-append (Attempt a ∷ []) more = (successes (Attempt a ∷ more), refl)
successes-append (Attempt a ∷ Success ∷ log) more = prefix_cons a (successes log) (successes (log ++ more)) (successes-append log more)
successes-append (Attempt a ∷ Attempt c ∷ log) more = successes-append (Attempt c ∷ log) more

pub successes-prefix : (log log' : List LogEntry) → IsPrefix log log' → IsPrefix (successes log) (successes log')
successes-prefix log log' p = subst (λ (l : List LogEntry). IsPrefix (successes log) (successes l)) p.1 (successes-append log p.0)

pub successes-shorter : (log log' both : List LogEntry) → IsPrefix log both → IsPrefix log' both → length log ≤ length log' → IsPrefix (successes log) (successes log')
successes-shorter log log' both p q le = successes-prefix log log' (prefix_shorter log log' both p q le)

next_entry : (log' : List LogEntry) (e : LogEntry) → IsPrefix (successes (log' ++ e ∷ [])) (successes_with_last log')
next_entry log' Success = prefix_self (successes_with_last log')
next_entry log' (Attempt b) = subst (λ (l : List Batch). IsPrefix l (successes_with_last log')) (sym (successes-attempt log' b)) (successes-append log' (Success ∷ []))

-- what is successes one entry later at most is successes if the last try is
pub successes-next : (log log' both : List LogEntry) → IsPrefix log both → IsPrefix log' both → length log ≤ length log' + 1 → IsPrefix (successes log) (successes_with_last log')
successes-next log log' both p q le =
    ⊎_elim (λ (r : IsPrefix log log'). prefix_trans (successes log) (successes log') (successes_with_last log') (successes-prefix log log' r) (successes-append log' (Success ∷ [])))
    (λ (r : (e : LogEntry) × (log ≡ log' ++ e ∷ [])). subst (λ (l : List LogEntry). IsPrefix (successes l) (successes_with_last log')) (sym r.1)
    (next_entry log' r.0)) (prefix_or_next log log' both p q le)
