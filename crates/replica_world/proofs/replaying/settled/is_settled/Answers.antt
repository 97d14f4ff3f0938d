use Rattle.std.proofs.Common.{sym, subst}
use Rattle.replica_world.specs.declared.replaying.settled.Part.{Part}
use Rattle.replica_world.specs.Reading.{IsSettled}
use Rattle.replica_world.proofs.Settled.{start_settled}
use Rattle.replica_world.proofs.replaying.settled.is_settled.Goals as goal

pub returns-in-Start-clause-settled : goal.returns-in-Start-clause-settled
returns-in-Start-clause-settled c = λ is.
    subst (λ (part : Part). IsSettled part c.args.text.now) (sym c.in-Start.is) (start_settled c.args.text.now (c.is_line_settled.ensures.line is))
