use Rattle.forgetting.proofs.RenewingLemmas.{rest_forgotten}
use Rattle.forgetting.proofs.standing.Forgetting.tend.Goals as goal

pub returns-in_ok-forgot-in-Some-clause-some : goal.returns-in_ok-forgot-in-Some-clause-some
returns-in_ok-forgot-in-Some-clause-some g c =
    rest_forgotten c.args.self.now.withdrawn c.args.self.now.listed c.args.merger.now _ _ c.in-Some.rest
    c.in_ok-forgot-in-Some.forgot c.in_ok-rest.ensures c.in-Some.is c.in_ok-forgot-in-Some.ensures.some
