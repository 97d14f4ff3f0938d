-- States that are appended one after the other.
use Rattle.std.proofs.Common.{inr, ◌≡◌, ℕ, List, [], ◌∷◌, ◌++◌, refl, sym, ap, ◌∙◌, map, append_assoc, append-nil}
use Rattle.harvest_lattice.specs.Lattice.{Entries}
use Rattle.memento_index.specs.declared.merge.Merge.{Merge}
use Rattle.memento_index.specs.declared.merge.Merge.TheVariants.{State}
use Rattle.published_index.specs.Cursors.{with_merge}
use Rattle.published_index.specs.Views.{MergerView}
use Rattle.round_values.specs.Keeping.{with_states, Starts}

-- with no state more it is what it was
pub no_state_more : (m : MergerView) → m ≡ with_states m []
no_state_more m = ap (λ (merges : List Merge). record m { pending = merges }) (sym (append-nil m.pending))

map_push : (xs : List Entries) (x : Entries) → map State (xs ++ x ∷ []) ≡ map State xs ++ State x ∷ []
map_push [] x = refl
map_push (y ∷ xs) x = ap (λ (ys : List Merge). State y ∷ ys) (map_push xs x)

-- behind some states one more
pub one_state_more : (m n : MergerView) (states : List Entries) (state : Entries) → n ≡ with_states m states
    → with_merge n (State state) ≡ with_states m (states ++ state ∷ [])
one_state_more m n states state so =
    ap (λ (k : MergerView). with_merge k (State state)) so
    ∙ ap (λ (merges : List Merge). record m { pending = merges })
    (append_assoc m.pending (map State states) (State state ∷ [])
    ∙ ap (λ (merges : List Merge). m.pending ++ merges) (sym (map_push states state)))

-- where nothing is read, nothing changes
pub nothing_is_added : (last : ℕ) (m : MergerView) → Starts last m m
nothing_is_added last m = ([], inr (record { first = []; left = []; split = refl; merger = no_state_more m }))
