use Rattle.std.proofs.Common.{◌≡◌}
use Rattle.question_threads.proofs.desks.Desk.hand_out.Given as goal

abbrev pub invariant-loop-place : goal.invariant-loop-place
invariant-loop-place g l = l.self.queue ≡ l.fn.self.queue
