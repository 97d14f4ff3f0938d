use Rattle.std.proofs.Common.{◌≡◌}
use Rattle.std.specs.Arc.{arc_value}
use Rattle.question_threads.specs.Queued.{AreWritten}
use Rattle.question_threads.proofs.asking.answer_list.Given as goal

-- what was written are answers
abbrev pub invariant-loop : goal.invariant-loop
invariant-loop g l =
    (l.asker.desk.queue.want ≡ l.fn.want) × (l.asker.desk.queue.base ≡ (arc_value l.fn.sources).base)
    × AreWritten g.P.WalkRules.jobs g.P.WalkRules.answers g.P.WalkRules.faults l.fn.want (arc_value l.fn.sources).base (g.W.Write.contents l.fn.out) (g.W.Write.contents l.out)
