-- What a cursor says where a rule decides what is kept.
use Rattle.std.specs.Prelude.{ℕ, List, take}
use Rattle.harvest_lattice.specs.Lattice.{Entries, AtMost}
use Rattle.memento_index.specs.declared.merge.Merge.{Merge}
use Rattle.replica_exchange.specs.Stamps.{state_after}
use Rattle.retention.specs.Restriction.{Rule, restrict}

-- what the rule keeps of a peer's first n merges is here
abbrev pub HasReachedWithin : Rule → List Merge → ℕ → Entries → Type 0
HasReachedWithin keeps merges n x = AtMost (restrict keeps (state_after (take n merges))) x
