use Rattle.round_values.proofs.AheadLemmas.{all_taken, taken_at_most, then_all}
use Rattle.round_values.proofs.ahead.what_is_taken.Goals as goal

pub returns : goal.returns
returns c = record { at_most = taken_at_most; all = all_taken; then_all = then_all }
