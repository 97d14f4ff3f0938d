use Rattle.std.proofs.Common.{arith}
use Rattle.std.proofs.lemmas.Grind.{common_steps}
use Rattle.std.proofs.lemmas.List.Edits.{map_over_more}
use Rattle.harvest_schedule.specs.Lanes.{after_begin}
use Rattle.harvest_schedule.proofs.schedules.begin_all.Goals as goal

pub loop-lane-preserved : goal.loop-lane-preserved
loop-lane-preserved c = grind (arith, common_steps, map_over_more (after_begin c.args.originals))
