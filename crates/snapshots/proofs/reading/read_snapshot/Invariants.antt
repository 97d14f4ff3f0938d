use Rattle.snapshots.proofs.ReadingBack.{HasRead}
use Rattle.snapshots.proofs.reading.read_snapshot.Given as goal

abbrev pub invariant-loop-count : goal.invariant-loop-count
invariant-loop-count g l = HasRead (g.R.Read.remaining l.fn.reader) (g.R.Read.remaining l.reader) l.count l.states.items
