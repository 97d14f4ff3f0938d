use Rattle.forgetting.specs.Renewing.{rule_of}
use Rattle.service_ledger.proofs.CallLemmas.{part_kept}
use Rattle.round_course.proofs.course.Course.sift.Goals as goal

pub returns-in-Ok-clause-part : goal.returns-in-Ok-clause-part
returns-in-Ok-clause-part g c =
    let forgetting = c.args.self.now.standing.forgetting in
    part_kept (rule_of forgetting.withdrawn forgetting.listed c.in-Ok.ensures.kept.wanted) c.args.delta c.in-Ok.sifted.delta
    c.in-Ok.ensures.rest c.in-Ok.ensures.kept.kept c.requires
