use Rattle.memento_time.proofs.DayLemmas.{imf_epoch}
use Rattle.memento_time.proofs.dates.DateWriter.new.Goals as goal

pub invariant_of-result : goal.invariant_of-result
invariant_of-result c = rw c.epoch.ensures imf_epoch
