use Rattle.std.proofs.Common.{take}
use Rattle.harvest_lattice.proofs.EntryOrder.{at_most_left, at_most_trans}
use Rattle.harvest_lattice.specs.Lattice.{join}
use Rattle.replica_exchange.specs.Stamps.{state_after}
use Rattle.retention.specs.Restriction.{restrict}
use Rattle.retention.proofs.RestrictionLemmas.{still_reached}
use Rattle.retention_laws.proofs.DeltaLemmas.{moved_on}
use Rattle.retention_laws.proofs.laws.cursors_stay_reached.Goals as goal

pub returns : goal.returns
returns c = record {
  forgotten = λ inner outer merges n x within le. still_reached inner outer (state_after (take n merges)) x within le;
  joined = λ keeps merges n x y le. at_most_trans (restrict keeps (state_after (take n merges))) x (join x y) le (at_most_left x y);
  moved = λ keeps merges s n x is le. moved_on keeps merges s n x is le;
}
