use Rattle.std.proofs.Common.{◌≤◌, ◌-◌, length, take, All}
use Rattle.memento_time.specs.Text.{IsCleanByte}
use Rattle.memento_time.proofs.blocks.are_clean_blocks.Given as goal

abbrev pub invariant-loop-start : goal.invariant-loop-start
invariant-loop-start l = All IsCleanByte (take l.start l.text) × (l.start ≤ length l.text)

abbrev pub decreases-loop-start : goal.decreases-loop-start
decreases-loop-start l = length l.text - l.start
