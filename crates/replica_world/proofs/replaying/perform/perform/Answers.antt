use Rattle.std.proofs.Common.{IfOk, sym, subst}
use Rattle.replica_world.specs.declared.replaying.command.Command.{Command}
use Rattle.replica_world.specs.Performing.{IsPerformed}
use Rattle.replica_world.specs.Spelled.{command_view, taking_view}
use Rattle.replica_world.proofs.Happenings.{taking_performed_if, step_performed_if}
use Rattle.replica_world.proofs.replaying.perform.perform.Goals as goal

pub returns-in-Take : goal.returns-in-Take
returns-in-Take c =
    subst (λ (command : Command). IfOk c.take.result (λ text. IsPerformed c.args.world.now (command_view command) text c.take.new.world)) (sym c.in-Take.is)
    (taking_performed_if c.args.world.now c.take.new.world (taking_view c.in-Take.taking) c.take.result c.take.ensures)

pub returns-in-Step : goal.returns-in-Step
returns-in-Step c =
    subst (λ (command : Command). IfOk c.happen.result (λ text. IsPerformed c.args.world.now (command_view command) text c.happen.new.world)) (sym c.in-Step.is)
    (step_performed_if c.args.world.now c.happen.new.world c.accepted_line.result.now c.in-Step.event c.happen.result c.accepted_line.ensures c.happen.ensures)
