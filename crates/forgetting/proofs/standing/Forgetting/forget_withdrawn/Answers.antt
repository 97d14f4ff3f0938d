use Rattle.std.proofs.Common.{ap, ◌∙◌}
use Rattle.retention.specs.Restriction.{restrict}
use Rattle.forgetting.specs.Renewing.{rule_of}
use Rattle.forgetting.proofs.GoneLemmas.{gone_forgotten}
use Rattle.forgetting.proofs.standing.Forgetting.forget_withdrawn.Goals as goal

pub returns-clause-gone : goal.returns-clause-gone
returns-clause-gone g c is_new =
    gone_forgotten c.in_ok-forgot.forgot c.args.self.now.withdrawn c.args.self.now.listed c.in_ok-wanted.wanted c.in_ok-kept.kept
    c.args.merger.now c.forget.new.merger
    (c.in_ok-kept.ensures ∙ ap (restrict (rule_of c.args.self.now.withdrawn c.args.self.now.listed c.in_ok-wanted.wanted)) c.published_state-state.ensures)
    c.in_ok-forgot.ensures.some c.in_ok-forgot.ensures.none c.in_ok-forgot.ensures.all
