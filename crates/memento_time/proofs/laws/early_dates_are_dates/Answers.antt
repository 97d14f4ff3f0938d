use Rattle.memento_time.proofs.EarlyLemmas.{early-IsBeforeEpoch, IsBeforeEpoch-early}
use Rattle.memento_time.proofs.laws.early_dates_are_dates.Goals as goal

pub returns : goal.returns
returns c = λ text. (early-IsBeforeEpoch text, IsBeforeEpoch-early text)
