use Rattle.aggregator_service.proofs.LinesLemmas.{AreWritten}
use Rattle.aggregator_service.proofs.serving.make_all.Given as goal

-- a line was written for each round that was made
abbrev pub invariant-loop-made : goal.invariant-loop-made
invariant-loop-made g l = AreWritten (g.W.Write.contents l.fn.out) (g.W.Write.contents l.out) l.made
