use Rattle.std.proofs.Common.{◌≡◌}
use Rattle.question_threads.proofs.desks.Desk.take_waiting.Given as goal

abbrev pub invariant-loop : goal.invariant-loop
invariant-loop g l = l.self.queue ≡ l.fn.self.queue
