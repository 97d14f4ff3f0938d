use Rattle.std.proofs.Common.{arith}
use Rattle.memento_index.proofs.laws.distances_are_between.Goals as goal

pub returns : goal.returns
returns c = record { later = λ t m le. omega (arith, le); earlier = λ t m le. omega (arith, le) }
