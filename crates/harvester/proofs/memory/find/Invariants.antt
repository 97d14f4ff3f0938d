use Rattle.std.proofs.Common.{◌≡◌, drop}
use Rattle.harvester.specs.Memory.{answer_in}
use Rattle.harvester.proofs.memory.find.Given as goal

abbrev pub invariant-loop-row : goal.invariant-loop-row
invariant-loop-row l = answer_in (drop l.row-index l.rows) l.url ≡ answer_in l.rows l.url
