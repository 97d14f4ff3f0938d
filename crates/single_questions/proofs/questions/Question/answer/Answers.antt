use Rattle.single_questions.proofs.QuestionLemmas.{answered_if}
use Rattle.single_questions.proofs.questions.Question.answer.Goals as goal

pub returns : goal.returns
returns g c = answered_if (λ text. text.items) c.write_answer.result g.P.WalkRules.jobs g.P.WalkRules.answers g.P.WalkRules.faults
    c.args.want c.args.service.now c.args.self.now.original c.args.self.now.known c.args.self.now.gathered c.write_answer.ensures
