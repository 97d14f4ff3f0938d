use Rattle.std.proofs.Common.{subst}
use Rattle.memento_time.specs.Second.{IsSecond}
use Rattle.timemap_formats.proofs.DateLemmas.{digits_made}
use Rattle.timemap_formats.proofs.dates.digits.Goals as goal

pub returns : goal.returns
returns c =
    digits_made c.write-text.result c.month-month.result c.args.moment (subst IsSecond c.secs-second.ensures.value c.secs-second.ensures.bound)
    c.write-text.ensures.text c.month-month.ensures
