use Rattle.std.proofs.Common.{◌≡◌, ℕ, ◌<◌, ◌≤◌, ◌++◌, length, get_or, drop, reverse}
use Rattle.memento_sets.specs.MementoSets.{Mementos}
use Rattle.harvest_lattice.specs.Parts.{put_parts}
use Rattle.harvest_lattice.proofs.ordered.unite.Given as goal

abbrev pub invariant-loop-part : goal.invariant-loop-part
invariant-loop-part l = record {
  whole : put_parts (l.both.items ++ reverse l.waiting.items) (drop l.part-index l.coming) ≡ put_parts l.fn.standing.items l.coming;
  below : (i j : ℕ) (d : ℕ × Mementos) → i < length l.both.items → l.part-index ≤ j → j < length l.coming
      → (get_or l.both.items i d).0 < (get_or l.coming j d).0;
}
