use Rattle.round_values.proofs.KeepingLemmas.{nothing_is_added}
use Rattle.round_values.proofs.keeping.take_states.Goals as goal

pub returns-in_err-states : goal.returns-in_err-states
returns-in_err-states g c = nothing_is_added c.args.last.0 c.args.merger.now

pub returns-in_default : goal.returns-in_default
returns-in_default g c = nothing_is_added c.args.last.0 c.args.merger.now
