use Rattle.std.proofs.Common.{lit≤}
use Rattle.memento_time.proofs.ReadLemmas.{Reads-imf}
use Rattle.memento_time.proofs.DayLemmas.{imf_epoch}
use Rattle.memento_time.proofs.dates.DateReader.new.Goals as goal

pub invariant_of-result : goal.invariant_of-result
invariant_of-result c = rw (c.epoch.ensures, imf_epoch) (Reads-imf 0 (lit≤ tt))
