use Rattle.replica_events.proofs.Furthest.{held_cursor, no_cursor}
use Rattle.replica_events.proofs.cursors.what_cursors_are.Goals as goal

pub returns-clause-held : goal.returns-clause-held
returns-clause-held c base course i r there peer held = held_cursor course i r there peer held

pub returns-clause-none : goal.returns-clause-none
returns-clause-none c base course i r there peer = no_cursor course i r there peer
