use Rattle.memento_time.proofs.CivilLemmas.{civil_time-valid, parts_secs-civil_time}
use Rattle.memento_time.proofs.StandardFacts.{first_second, rfc_example}
use Rattle.memento_time.proofs.laws.dates_are_of_the_calendar.Goals as goal

pub returns-clause-valid : goal.returns-clause-valid
returns-clause-valid c = civil_time-valid

pub returns-clause-back : goal.returns-clause-back
returns-clause-back c = parts_secs-civil_time

pub returns-clause-first : goal.returns-clause-first
returns-clause-first c = first_second

pub returns-clause-of_rfc_9110 : goal.returns-clause-of_rfc_9110
returns-clause-of_rfc_9110 c = rfc_example
