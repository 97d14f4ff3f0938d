use Rattle.timegate.proofs.Promises.{vary_once}
use Rattle.timegate.proofs.laws.timegates_vary.Goals as goal

pub returns : goal.returns
returns c = vary_once
