use Rattle.harvester.proofs.Losses.{never_lost}
use Rattle.harvester.proofs.laws.good_pages_are_never_lost.Goals as goal

pub returns : goal.returns
returns g c = never_lost (g.F.Fetch.answers c.args._fetcher.now) (g.F.Fetch.faults c.args._fetcher.now)
