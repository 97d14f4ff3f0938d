use Rattle.std.proofs.Common.{◌≡◌, length}
use Rattle.memento_time.specs.Blanks.{is_among, trim_end}
use Rattle.memento_time.proofs.blanks.trim_end.Given as goal

abbrev pub invariant-loop-rest : goal.invariant-loop-rest
invariant-loop-rest l = trim_end (is_among l.bytes) l.rest ≡ trim_end (is_among l.bytes) l.text

abbrev pub decreases-loop-rest : goal.decreases-loop-rest
decreases-loop-rest l = length l.rest
