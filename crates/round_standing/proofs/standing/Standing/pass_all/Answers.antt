use Rattle.std.proofs.Common.{rules}
use Rattle.round_standing.proofs.PassingLemmas.{all_more_passed, all_stay, none_passed, others_still_stay}
use Rattle.round_standing.proofs.standing.Standing.pass_all.Goals as goal

pub loop-original-init : goal.loop-original-init
loop-original-init c =
    let old = c.args.self.now in
    (none_passed old.passed old.schedule, all_stay c.args.archive old.schedule, search rules)

pub loop-original-preserved : goal.loop-original-preserved
loop-original-preserved c =
    let start = c.args.self.now.schedule in
    let old = c.loop-original.self.schedule in
    let new = c.pass_job.new.self.schedule in (
      all_more_passed _ start old new _ _ c.loop-original.invariant.0 c.pass_job.ensures.passed,
      others_still_stay _ start old new c.loop-original.invariant.1 c.pass_job.ensures.others,
      search rules,
    )
