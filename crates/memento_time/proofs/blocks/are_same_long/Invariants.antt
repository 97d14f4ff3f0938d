use Rattle.std.proofs.Common.{◌-◌}
use Rattle.memento_time.proofs.BlockLemmas.{HaveSameFront}
use Rattle.memento_time.proofs.blocks.are_same_long.Given as goal

abbrev pub invariant-loop-start : goal.invariant-loop-start
invariant-loop-start l = HaveSameFront l.left l.right l.start

abbrev pub decreases-loop-start : goal.decreases-loop-start
decreases-loop-start l = l.last - l.start
