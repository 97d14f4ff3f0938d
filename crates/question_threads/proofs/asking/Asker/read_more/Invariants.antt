use Rattle.question_threads.specs.Queued.{AsksTheSame}
use Rattle.question_threads.proofs.asking.Asker.read_more.Given as goal

abbrev pub invariant-loop : goal.invariant-loop
invariant-loop g l = AsksTheSame l.fn.self.desk.queue l.self.desk.queue
