use Rattle.std.proofs.Common.{Ok, ap, ◌∙◌}
use Rattle.service_ledger.proofs.CallLemmas.{pulled_whole}
use Rattle.round_pulls.proofs.pulling.accept_answer.Goals as goal

pub sift-requires : goal.sift-requires
sift-requires g c = pulled_whole c.args.answer c.in-Ok-Whole.delta (c.in-Ok-Whole.is ∙ ap (λ p. Ok p) c.in-Ok-Whole.field-0-is) c.requires
