use Rattle.replica_events.proofs.Moments.{cursor_reached, merges_made}
use Rattle.replica_events.proofs.cursors.cursors_are_kept.Goals as goal

pub returns-clause-states : goal.returns-clause-states
returns-clause-states c base course i r there = merges_made course i r there

pub returns-clause-cursors : goal.returns-clause-cursors
returns-clause-cursors c base course i r there peer held is = cursor_reached course i r there peer held is
