use Rattle.question_threads.proofs.QueuedLemmas.{one_changed}
use Rattle.question_threads.proofs.queue.Queue.ask.Goals as goal

pub returns : goal.returns
returns g c =
    one_changed c.self.inside.questions.items (λ question. question.original) c.args.place c.in-Some.question.now c.ask.new.self c.self.inside.want c.self.inside.base
    c.args.self.now c.in-Some.ensures.value c.ask.ensures.original c.self.view_is
