use Rattle.std.proofs.Common.{rules}
use Rattle.std.proofs.lemmas.Fn.{filter_same}
use Rattle.round_values.specs.Desks.{isnt_of}
use Rattle.round_values.proofs.desks.Desk.end_again.Goals as goal

pub returns-clause-again : goal.returns-clause-again
returns-clause-again c = filter_same _ (isnt_of c.args.archive) _ (λ x b f k. search rules) _ _ c.retain.ensures.filtered
