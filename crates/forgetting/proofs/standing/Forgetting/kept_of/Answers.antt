use Rattle.std.proofs.Common.{inl, inr}
use Rattle.forgetting.proofs.RenewingLemmas.{copy_is_kept}
use Rattle.forgetting.proofs.standing.Forgetting.kept_of.Goals as goal

pub returns-in_default : goal.returns-in_default
returns-in_default c =
    copy_is_kept c.try_clone.result c.args.self.now.withdrawn c.args.self.now.listed c.args.wanted.now c.args.state.now
    (inl c.in_default.is) c.try_clone.ensures

pub returns-in_default-listed : goal.returns-in_default-listed
returns-in_default-listed c =
    copy_is_kept c.try_clone-in_default-listed.result c.args.self.now.withdrawn c.args.self.now.listed c.args.wanted.now c.args.state.now
    (inr c.in_default-listed.is) c.try_clone-in_default-listed.ensures
