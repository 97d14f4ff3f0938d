use Rattle.replica_events.proofs.Causes.{refusal_cause, refusal_unchanged, cause_refused, accepted_result}
use Rattle.replica_events.proofs.refusals.refusals_have_causes.Goals as goal

pub returns-clause-cause : goal.returns-clause-cause
returns-clause-cause c base world event why next step = refusal_cause base world event why next step

pub returns-clause-unchanged : goal.returns-clause-unchanged
returns-clause-unchanged c base world event why next step = refusal_unchanged base world event why next step

pub returns-clause-answered : goal.returns-clause-answered
returns-clause-answered c base world event why cause other = cause_refused base world event why cause other

pub returns-clause-result : goal.returns-clause-result
returns-clause-result c base world event said next step = accepted_result base world event said next step
