use Rattle.published_index.proofs.EventLemmas.{publish_runs, publish_taken, publish_merged}
use Rattle.published_index.proofs.laws.a_publish_is_events.Goals as goal

pub returns-clause-run : goal.returns-clause-run
returns-clause-run c = publish_runs

pub returns-clause-taken : goal.returns-clause-taken
returns-clause-taken c = publish_taken

pub returns-clause-merges : goal.returns-clause-merges
returns-clause-merges c = publish_merged
