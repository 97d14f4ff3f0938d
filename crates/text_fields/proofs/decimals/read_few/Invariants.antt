use Rattle.std.proofs.Common.{◌-◌, ◌≤◌}
use Rattle.text_fields.specs.Decimals.{Writes}
use Rattle.text_fields.proofs.decimals.read_few.Given as goal

abbrev pub invariant-loop-count : goal.invariant-loop-count
invariant-loop-count l = Writes l.text l.count l.number × (l.count ≤ l.end)

abbrev pub decreases-loop-count : goal.decreases-loop-count
decreases-loop-count l = l.end - l.count
