use Rattle.std.proofs.Common.{subst, sym}
use Rattle.memento_time.specs.Second.{IsSecond}
use Rattle.memento_time.specs.Text.{IsClean}
use Rattle.timemap_formats.proofs.DateLemmas.{rfc3339_made, rfc3339_clean}
use Rattle.timemap_formats.proofs.dates.rfc3339.Goals as goal

pub returns-clause-value : goal.returns-clause-value
returns-clause-value c =
    rfc3339_made c.write-text.result c.month-month.result c.args.moment (subst IsSecond c.secs-second.ensures.value c.secs-second.ensures.bound)
    c.write-text.ensures.text c.month-month.ensures

pub returns-clause-clean : goal.returns-clause-clean
returns-clause-clean c =
    let is = subst IsSecond c.secs-second.ensures.value c.secs-second.ensures.bound in
    subst IsClean (sym (rfc3339_made c.write-text.result c.month-month.result c.args.moment is c.write-text.ensures.text c.month-month.ensures)) (rfc3339_clean c.args.moment is)
