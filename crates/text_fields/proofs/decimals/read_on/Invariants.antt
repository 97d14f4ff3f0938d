use Rattle.std.proofs.Common.{◌-◌, length}
use Rattle.text_fields.specs.Decimals.{Writes}
use Rattle.text_fields.proofs.decimals.read_on.Given as goal

abbrev pub invariant-loop-count : goal.invariant-loop-count
invariant-loop-count l = Writes l.text l.count l.number

abbrev pub decreases-loop-count : goal.decreases-loop-count
decreases-loop-count l = length l.text - l.count
