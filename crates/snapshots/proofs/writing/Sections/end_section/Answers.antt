use Rattle.std.proofs.Common.{◌≡◌, ◌+◌, ◌<◌, ◌^◌, rules, refl}
use Rattle.snapshot_sections.proofs.Appending.{on_err}
use Rattle.snapshots.proofs.Sectioning.{ended_step}
use Rattle.snapshots.proofs.Beginning.{section_step, standing}
use Rattle.snapshots.proofs.writing.Sections.end_section.Goals as goal

pub returns-in_err-write_section-clause-begun : goal.returns-in_err-write_section-clause-begun
returns-in_err-write_section-clause-begun g c =
    let few : c.args.self.now.entries < 2 ^ 64 = search rules in
    let lent : c.deref.result.now ≡ c.args.self.now.body.items = search rules in
    let one : c.args.self.now.written + 1 < 2 ^ 64 = search rules in
    on_err _ (section_step _ _ _ _ _ _ few one c.in_err-write_section.ensures.less lent)

pub returns-in_default-clause-begun : goal.returns-in_default-clause-begun
returns-in_default-clause-begun g c = standing _ _ _ _

pub returns-clause-ended : goal.returns-clause-ended
returns-clause-ended g c =
    let few : c.args.self.now.entries < 2 ^ 64 = search rules in
    let lent : c.deref.result.now ≡ c.args.self.now.body.items = search rules in
    let more : c.in-Some.more ≡ c.args.self.now.written + 1 = search rules in
    let fits : c.in-Some.more < 2 ^ 64 = search rules in
    λ start done stands. ended_step start _ _ _ _ _ _ _ _ _ done stands few fits c.in_ok-write_section.ensures.written lent c.clear.ensures.items refl more
