use Rattle.replica_events.proofs.Replies.{given, gives_reply, same_state, agreement, serves_timemaps, serves_timegates, redirects_well}
use Rattle.replica_events.proofs.Explained.{same_harvests}
use Rattle.replica_events.proofs.agreement.replicas_agree.Goals as goal

pub returns-clause-learnt : goal.returns-clause-learnt
returns-clause-learnt c base course i j known other i_is j_is alike =
    agreement base course.world i j known other i_is j_is (same_state known other (same_harvests course i j known other i_is j_is alike))

pub returns-clause-same_harvests : goal.returns-clause-same_harvests
returns-clause-same_harvests c base world i j known other i_is j_is same = agreement base world i j known other i_is j_is (same_state known other same)

pub returns-clause-same_state : goal.returns-clause-same_state
returns-clause-same_state c base world i j known other i_is j_is same = agreement base world i j known other i_is j_is same

pub returns-clause-replies : goal.returns-clause-replies
returns-clause-replies c base world i known is q r compared = (given base world i known q r is compared, gives_reply base world i known q r is compared)

pub returns-clause-timemaps : goal.returns-clause-timemaps
returns-clause-timemaps c base world i known is = serves_timemaps base world i known is

pub returns-clause-timegates : goal.returns-clause-timegates
returns-clause-timegates c base world i known is = serves_timegates base world i known is

pub returns-clause-redirects : goal.returns-clause-redirects
returns-clause-redirects c base world i known is = redirects_well base world i known is
