use Rattle.std.proofs.Common.{◌<◌, [], is_some, subst, ap}
use Rattle.single_questions.specs.Wants.{answer_text}
use Rattle.harvest_lattice.specs.Knowledge.{shown}
use Rattle.question_threads.proofs.QueuedLemmas.{next_of, on_err, some_answer}
use Rattle.question_threads.proofs.queue.Queue.ready.Goals as goal

pub returns-in_err-text-clause-refused : goal.returns-in_err-text-clause-refused
returns-in_err-text-clause-refused g c =
    let rules = g.P.WalkRules in
    let inside = c.self.inside in
    let original = c.in-Some.question.now.original in
    let text = answer_text inside.want inside.base original (shown [] original) in
    on_err c.from_residual.result _ (
      text,
      next_of rules.jobs rules.answers rules.faults inside.questions.items (λ question. question.original) c.in-Some.question.now
          inside.want inside.base text c.args.self.now c.self.view_is
          (subst (λ n. 0 < n) inside.questions.ok.0 (c.front.ensures.variant.0 (ap is_some c.in-Some.is))) c.in-Some.ensures.lookup
          (some_answer rules.jobs rules.answers rules.faults inside.want inside.base original),
    )

pub returns-clause-next : goal.returns-clause-next
returns-clause-next g c =
    let rules = g.P.WalkRules in
    let inside = c.self.inside in
    next_of rules.jobs rules.answers rules.faults inside.questions.items (λ question. question.original) c.in-Some.question.now inside.want inside.base c.in_ok-text.text.items
    c.args.self.now c.self.view_is (subst (λ n. 0 < n) inside.questions.ok.0 (c.front.ensures.variant.0 (ap is_some c.in-Some.is))) c.in-Some.ensures.lookup c.in_ok-text.ensures
