use Rattle.std.proofs.Common.{List, Ok, subst}
use Rattle.std.specs.List.{Contains}
use Rattle.harvester.specs.Answers.{Entry}
use Rattle.harvester.proofs.Losses.{never_lost, all_read}
use Rattle.harvester.proofs.laws.lost_pages_give_no_mementos.Goals as goal

pub returns : goal.returns
returns g c = λ job entries lost h m o held.
    let answers = g.F.Fetch.answers c.args._fetcher.now in
    let faults = g.F.Fetch.faults c.args._fetcher.now in
    let n = (o.ends.2.mementos m).0 held in
    let taken = subst (λ (es : List Entry). Contains es n.entry) (all_read answers faults job entries lost h o) n.taken in
    (n.entry, taken, never_lost answers faults job entries lost (Ok h) o n.entry n.page taken n.says, (n.page, n.says, n.named))
