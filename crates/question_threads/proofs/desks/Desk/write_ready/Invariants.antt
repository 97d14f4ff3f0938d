use Rattle.question_threads.specs.Queued.{Writes}
use Rattle.question_threads.proofs.desks.Desk.write_ready.Given as goal

abbrev pub invariant-loop : goal.invariant-loop
invariant-loop g l =
    Writes g.P.WalkRules.jobs g.P.WalkRules.answers g.P.WalkRules.faults l.fn.self.queue l.self.queue (g.W.Write.contents l.fn.out) (g.W.Write.contents l.out)
