use Rattle.std.proofs.Common.{sym, subst, ℕ}
use Rattle.round_standing.specs.Paces.{Passes}
use Rattle.round_standing.proofs.PassingLemmas.{none_passed, no_more_passed, one_more_passed, others_stay}
use Rattle.round_standing.proofs.standing.Standing.pass_job.Goals as goal

pub returns-then-is_passed-clause-passed : goal.returns-then-is_passed-clause-passed
returns-then-is_passed-clause-passed c =
    let old = c.args.self.now in
    subst (λ (n : ℕ). Passes old.passed old.schedule n c.pass_over-is_passed.new.self) (sym c.saturating_add-self.ensures)
    (one_more_passed _ _ old.schedule c.pass_over-is_passed.new.self _ _ _ (none_passed old.passed old.schedule)
    c.if-is_passed.ensures.lanes)

pub returns-then-is_passed-clause-others : goal.returns-then-is_passed-clause-others
returns-then-is_passed-clause-others c =
    others_stay _ _ _ _ c.args.self.now.schedule c.pass_over-is_passed.new.self c.pass_over-is_passed.ensures.lanes

pub returns-else-is_passed-clause-passed : goal.returns-else-is_passed-clause-passed
returns-else-is_passed-clause-passed c =
    let old = c.args.self.now in
    no_more_passed _ _ old.schedule c.pass_over-is_passed.new.self _ _ _ (none_passed old.passed old.schedule)
    c.if-is_passed.ensures.lanes
