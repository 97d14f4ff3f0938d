use Rattle.std.proofs.Common.{◌<◌}
use Rattle.memento_time.specs.Mementos.{memento_cmp}
use Rattle.memento_sets.proofs.Rising.{Rises}
use Rattle.memento_sets.proofs.mementos.mementos_rise.Given as goal

abbrev pub invariant-loop-k : goal.invariant-loop-k
invariant-loop-k l = record { some : 0 < l.k; rises : Rises memento_cmp l.list l.k }
