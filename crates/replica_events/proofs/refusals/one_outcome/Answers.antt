use Rattle.replica_events.proofs.Outcomes.{effect_once, effect_happens}
use Rattle.replica_events.proofs.refusals.one_outcome.Goals as goal

pub returns-clause-once : goal.returns-clause-once
returns-clause-once c base world event answer other next last one two = effect_once base world event answer next other last one two

pub returns-clause-some : goal.returns-clause-some
returns-clause-some c base world event = effect_happens base world event
