use Rattle.std.proofs.Common.{sym, subst}
use Rattle.harvest_lattice.specs.Lattice.{Entries}
use Rattle.single_questions.specs.Gathered.{IsGathered}
use Rattle.single_questions.proofs.QuestionLemmas.{nothing_known}
use Rattle.single_questions.proofs.questions.Question.new.Goals as goal

pub invariant_of-result : goal.invariant_of-result
invariant_of-result g c =
    let rules = g.P.WalkRules in
    record {
      gathered = ∣ subst (λ (x : Entries). IsGathered rules.jobs rules.answers rules.faults c.args.original x) (sym c.new.ensures)
          (nothing_known rules.jobs rules.answers rules.faults c.args.original) ∣₁;
    }
