use Rattle.single_questions.proofs.QuestionLemmas.{taken_in}
use Rattle.single_questions.proofs.questions.Question.take.Goals as goal

pub invariant_of-self : goal.invariant_of-self
invariant_of-self g c =
    let walked = c.args.walked in
    record {
      gathered = taken_in c.take_in.result g.P.WalkRules.jobs g.P.WalkRules.answers g.P.WalkRules.faults c.args.self.now.original
          c.args.self.now.known c.take_in.new.known walked.errand walked.job walked.begun walked.result walked.asked
          c.requires.own c.requires.is_for c.requires.comes c.take_in.ensures.known c.take_in.ensures.same c.args.self.now.gathered;
    }
