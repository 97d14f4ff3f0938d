use Rattle.timegate.proofs.Replies.{gate_reply, redirects, redirects_alone}
use Rattle.timegate.proofs.laws.redirects_name_the_nearest.Goals as goal

pub returns-clause-timegates : goal.returns-clause-timegates
returns-clause-timegates c = gate_reply

pub returns-clause-redirects : goal.returns-clause-redirects
returns-clause-redirects c = redirects

pub returns-clause-alone : goal.returns-clause-alone
returns-clause-alone c = redirects_alone
