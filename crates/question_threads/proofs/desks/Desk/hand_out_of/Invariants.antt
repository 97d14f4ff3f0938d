use Rattle.std.proofs.Common.{◌≡◌}
use Rattle.question_threads.proofs.desks.Desk.hand_out_of.Given as goal

abbrev pub invariant-loop-archive : goal.invariant-loop-archive
invariant-loop-archive g l = l.self.queue ≡ l.fn.self.queue
