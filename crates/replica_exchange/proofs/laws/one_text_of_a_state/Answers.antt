use Rattle.replica_exchange.proofs.StateLemmas.{one_text, one_state}
use Rattle.replica_exchange.proofs.laws.one_text_of_a_state.Goals as goal

pub returns-clause-written : goal.returns-clause-written
returns-clause-written c = one_text

pub returns-clause-read : goal.returns-clause-read
returns-clause-read c = one_state
