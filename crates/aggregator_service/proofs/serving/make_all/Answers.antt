use Rattle.std.proofs.Common.{rules}
use Rattle.aggregator_service.proofs.LinesLemmas.{none_written, one_more_written}
use Rattle.aggregator_service.proofs.serving.make_all.Goals as goal

pub loop-made-init : goal.loop-made-init
loop-made-init g c = none_written _

pub loop-made-preserved : goal.loop-made-preserved
loop-made-preserved g c = one_more_written _ _ _ c.loop-made.made _ c.make-ended.result.round (search rules) c.loop-made.invariant c.in_ok-say_round.ensures
