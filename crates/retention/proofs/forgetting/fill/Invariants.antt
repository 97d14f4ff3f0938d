use Rattle.retention.specs.Floors.{AreAmong}
use Rattle.retention.proofs.forgetting.fill.Given as goal

abbrev pub invariant-loop-row : goal.invariant-loop-row
invariant-loop-row l = AreAmong l.fn.wanted l.wanted
