use Rattle.replica_events.proofs.Explained.{taken_is_learnt, message_carries, message_sender, message_bytes}
use Rattle.replica_events.proofs.Moments.{whole_delta}
use Rattle.replica_events.proofs.history.what_replicas_have_taken.Goals as goal

pub returns-clause-taken : goal.returns-clause-taken
returns-clause-taken c base course i known is h = taken_is_learnt course i known is h

pub returns-clause-carried : goal.returns-clause-carried
returns-clause-carried c base course k m there h = message_carries course k m there h

pub returns-clause-sender : goal.returns-clause-sender
returns-clause-sender c base course k m there = message_sender course k m there

pub returns-clause-bytes : goal.returns-clause-bytes
returns-clause-bytes c base course k m there = message_bytes course k m there

pub returns-clause-whole : goal.returns-clause-whole
returns-clause-whole c base course k m there first = whole_delta course k m there first
