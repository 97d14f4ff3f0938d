use Rattle.std.proofs.Common.{rules}
use Rattle.published_index.specs.Cursors.{with_publish}
use Rattle.published_index.specs.Events.{AreNumbered}
use Rattle.published_index.proofs.EventLemmas.{publish_runs}
use Rattle.published_index.proofs.mergers.Merger.publish.Goals as goal

pub returns-clause-events : goal.returns-clause-events
returns-clause-events g c =
    let numbered : AreNumbered (with_publish c.args.self.now).published = search rules in
    publish_runs c.args.self.now numbered
