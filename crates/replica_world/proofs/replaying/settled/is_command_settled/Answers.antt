use Rattle.std.proofs.Common.{rules, sym}
use Rattle.replica_world.proofs.Settled.{no_line_settled, no_form_settled, command_settled}
use Rattle.replica_world.proofs.replaying.settled.is_command_settled.Goals as goal

pub returns-in_default-clause-command : goal.returns-in_default-clause-command
returns-in_default-clause-command c = λ _. no_line_settled c.args.text.now (c.is_line_settled.ensures.line (search rules)) (sym c.in_default.ensures)

pub returns-in-Some-read_form-clause-command : goal.returns-in-Some-read_form-clause-command
returns-in-Some-read_form-clause-command c = λ is.
    command_settled c.args.text.now _ c.in-Some.rest.now _ (c.is_line_settled.ensures.line (search rules)) (sym c.in-Some.ensures) (sym c.in-Some-read_form.ensures) (c.is_form_settled.ensures is)

pub returns-in-None-clause-command : goal.returns-in-None-clause-command
returns-in-None-clause-command c = λ _.
    no_form_settled c.args.text.now _ c.in-Some.rest.now (c.is_line_settled.ensures.line (search rules)) (sym c.in-Some.ensures) (sym c.in-None.ensures)
