-- What is kept over a restart: what a start takes in, and when there is something to be kept.
use Rattle.std.specs.Prelude.{◌≡◌, ◌⊎◌, ℕ, List, ◌++◌, map, Bool, true, false, ◌||◌}
use Rattle.harvest_lattice.specs.Lattice.{Entries}
use Rattle.memento_index.specs.declared.merge.Merge.TheVariants.{State}
use Rattle.round_values.specs.Ahead.{taken}
use Rattle.published_index.specs.Cursors.{with_publish}
use Rattle.published_index.specs.Views.{MergerView}
use Rattle.round_values.specs.declared.keeping.Keeping.{Keeping}

-- with these states pending, behind what was
abbrev pub with_states : MergerView → List Entries → MergerView
with_states m states = record m { pending = m.pending ++ map State states }

-- the first few of these states are pending, and nothing more is published
pub record TakesSome (m : MergerView) (states : List Entries) (n : MergerView) : Type 0 where
  pub first : List Entries
  pub left : List Entries
  pub split : states ≡ first ++ left
  pub merger : n ≡ with_states m first

-- Whatever a start finds, it adds what is taken of states up to a second, and takes nothing away: that of all states of
-- a snapshot is published as one batch; or nothing is published, and that of the first few of them may be pending.
abbrev pub Starts : ℕ → MergerView → MergerView → Type 0
Starts last m n =
    (states : List Entries)
    × ((n ≡ with_publish (with_states m (map (taken last) states))) ⊎ TakesSome m (map (taken last) states) n)

-- What a publish makes of it: what was appended waits for one that succeeds, and is then to be kept.
abbrev pub after_publish : Keeping → Bool → Bool → Keeping
after_publish keeping appended true =
    record keeping { is_pending = false; is_behind = keeping.is_behind || (keeping.is_pending || appended) }
after_publish keeping appended false = record keeping { is_pending = keeping.is_pending || appended }
