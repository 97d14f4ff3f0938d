use Rattle.std.proofs.Common.{◌≡◌, ℕ, ◌<◌, ◌++◌, reverse, vec_len}
use Rattle.std.specs.List.{All}
use Rattle.memento_sets.specs.MementoSets.{Mementos}
use Rattle.harvest_lattice.proofs.ordered.pass.Given as goal

abbrev pub invariant-loop-next : goal.invariant-loop-next
invariant-loop-next l = record {
  whole : l.both.items ++ reverse l.waiting.items ≡ l.initial.both.items ++ reverse l.initial.waiting.items;
  below : All (λ (p : ℕ × Mementos). p.0 < l.revision) l.both.items;
}

abbrev pub decreases-loop-next : goal.decreases-loop-next
decreases-loop-next l = vec_len l.waiting
