use Rattle.std.proofs.Common.{◌<◌, map}
use Rattle.std.specs.Ordering.{nat_cmp}
use Rattle.memento_sets.proofs.Rising.{Rises}
use Rattle.harvest_lattice.proofs.Rising.{rev}
use Rattle.harvest_lattice.proofs.ordered.parts_rise.Given as goal

abbrev pub invariant-loop-k : goal.invariant-loop-k
invariant-loop-k l = record { some : 0 < l.k; rises : Rises nat_cmp (map rev l.parts) l.k }
