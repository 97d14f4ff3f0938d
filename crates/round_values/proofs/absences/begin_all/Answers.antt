use Rattle.std.proofs.Common.{arith}
use Rattle.std.proofs.lemmas.Grind.{common_steps}
use Rattle.std.proofs.lemmas.List.Edits.{map_over_more}
use Rattle.round_values.specs.Absences.{presence_at}
use Rattle.round_values.proofs.absences.begin_all.Goals as goal

pub loop-archive-preserved : goal.loop-archive-preserved
loop-archive-preserved c = grind (arith, common_steps, map_over_more (presence_at c.args.scope c.args.originals))
