use Rattle.std.proofs.Common.{rules}
use Rattle.std.proofs.lemmas.Fn.{filter_same}
use Rattle.round_values.specs.Desks.{is_another}
use Rattle.round_values.proofs.desks.leave_out.Goals as goal

pub returns : goal.returns
returns c = filter_same _ (is_another c.args.original.now) _ (λ x b f k. search rules) _ _ c.retain.ensures.filtered
