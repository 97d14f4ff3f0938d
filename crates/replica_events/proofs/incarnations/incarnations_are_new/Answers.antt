use Rattle.replica_events.proofs.Counted.{replica_is_in, message_was_sent_in, sent_message_is_there, own_incarnation}
use Rattle.replica_events.proofs.incarnations.incarnations_are_new.Goals as goal

pub returns-clause-replicas : goal.returns-clause-replicas
returns-clause-replicas c base course i r there = replica_is_in course i r there

pub returns-clause-messages : goal.returns-clause-messages
returns-clause-messages c base course k m found = message_was_sent_in course k m found

pub returns-clause-sent : goal.returns-clause-sent
returns-clause-sent c base course sender k incarnation merges s = sent_message_is_there course sender k incarnation merges s

pub returns-clause-apart : goal.returns-clause-apart
returns-clause-apart c base earlier course on i j was r there here same = own_incarnation earlier course on i j was r there here same
