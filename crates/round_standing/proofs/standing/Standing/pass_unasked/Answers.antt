use Rattle.round_standing.proofs.PassingLemmas.{none_passed}
use Rattle.round_standing.proofs.standing.Standing.pass_unasked.Goals as goal

pub returns-else-not-is_asked-clause-passed : goal.returns-else-not-is_asked-clause-passed
returns-else-not-is_asked-clause-passed c = none_passed c.args.self.now.passed c.args.self.now.schedule
