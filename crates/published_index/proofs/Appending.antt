-- What appends do, by the outcome.
use Rattle.std.proofs.Common.{◌≡◌, ℕ, List, [], ◌∷◌, ◌++◌, Result, Ok, Err, MatchResult, ap, ◌∙◌}
use Rattle.harvest_lattice.specs.Lattice.{Entries}
use Rattle.memento_index.specs.declared.merge.Merge.{Merge}
use Rattle.memento_index.specs.declared.merge.Merge.TheVariants.{State}
use Rattle.replica_exchange.specs.declared.delta.Delta.{Delta}
use Rattle.replica_exchange.specs.CursorRule.{Held, taken_from}
use Rattle.memento_time.specs.declared.faults.NoMemory.{NoMemory}
use Rattle.published_index.specs.declared.editions.Change.{Change}
use Rattle.published_index.specs.Batches.{Batch}
use Rattle.published_index.specs.Changes.{merges_in}
use Rattle.published_index.specs.Cursors.{with_merge, with_delta}
use Rattle.published_index.specs.Views.{MergerView}
use Rattle.published_index.proofs.Folding.{merges_in-append}

-- what a change adds that was noted
pub noted : (r : Result (Unit {0}) NoMemory) (log log' : List Change) (change : Change) (ms : List Merge) → merges_in (change ∷ []) ≡ ms
    → MatchResult r (λ _. log' ≡ log ++ change ∷ []) (λ _. log' ≡ log) → MatchResult r (λ _. merges_in log' ≡ merges_in log ++ ms) (λ _. log' ≡ log)
noted (Ok x) log log' change ms is more = ap merges_in more ∙ (merges_in-append log (change ∷ []) ∙ ap (λ (ms : List Merge). merges_in log ++ ms) is)
noted (Err x) log log' change ms is same = same

pub appended : (r : Result (Unit {0}) NoMemory) (old new : MergerView) (log log' : List Change) (m m' : Merge) → new ≡ record old { pending = merges_in log' } → merges_in log ≡ old.pending → m ≡ m'
    → MatchResult r (λ _. merges_in log' ≡ merges_in log ++ m ∷ []) (λ _. log' ≡ log) → MatchResult r (λ _. new ≡ with_merge old m') (λ _. new ≡ old)
appended (Ok x) old new log log' m m' is was same more =
    is ∙ ap (λ (p : Batch). record old { pending = p }) (more ∙ (λ i. was i ++ same i ∷ []))
appended (Err x) old new log log' m m' is was same unchanged = is ∙ ap (λ (p : Batch). record old { pending = p }) (ap merges_in unchanged ∙ was)

pub delta_appended : (old new : MergerView) (log log' : List Change) (peer : ℕ) (d : Delta) (state : Entries) (was moved : Held)
    → new ≡ record old { pending = merges_in log'; cursors = moved } → merges_in log ≡ old.pending → was ≡ old.cursors
    → state ≡ d.state → moved ≡ taken_from was peer d → merges_in log' ≡ merges_in log ++ State state ∷ [] → new ≡ with_delta old peer d
delta_appended old new log log' peer d state was moved is pends holds same taken more =
    let pending : merges_in log' ≡ old.pending ++ State d.state ∷ [] = more ∙ (λ i. pends i ++ State (same i) ∷ []) in
    let cursors : moved ≡ taken_from old.cursors peer d = taken ∙ ap (λ (h : Held). taken_from h peer d) holds in
    is ∙ (λ i. record old { pending = pending i; cursors = cursors i })
