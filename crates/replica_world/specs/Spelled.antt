-- What the code reads of a script, as the definitions have it.
use Rattle.replica_world.specs.declared.replaying.command.Command as code
use Rattle.replica_world.specs.declared.replaying.command.Command.TheVariants as spelled
use Rattle.replica_world.specs.declared.replaying.command.Taking.{Taking as SpelledTaking}
use Rattle.replica_world.specs.declared.replaying.form.Form as code_form
use Rattle.replica_world.specs.declared.replaying.form.Form.TheVariants as spelled_form
use Rattle.replica_world.specs.declared.replaying.form.TakeForm.{TakeForm as SpelledTake}
use Rattle.replica_world.specs.declared.replaying.form.AskForm.{AskForm as SpelledAsk}
use Rattle.replica_world.specs.declared.replaying.start.Start.{Start as SpelledStart}
use Rattle.replica_world.specs.Form as form
use Rattle.replica_world.specs.Form.{TakeForm, AskForm}
use Rattle.replica_world.specs.Script.{Taking, Command, Take, Step, Start}

-- a `take` as the definition sees it
abbrev pub taking_view : SpelledTaking → Taking
taking_view t =
    record {
      is_whole = t.is_whole;
      replica = t.replica;
      archive = t.archive.now;
      revision = t.revision;
      address = t.address.now;
      body = t.body.now;
      original = t.original.now;
    }

-- a command as the definition sees it
abbrev pub command_view : code.Command → Command
command_view (spelled.Take t) = Take (taking_view t)
command_view (spelled.Step event) = Step event

-- a first line as the definition sees it
abbrev pub start_view : SpelledStart → Start
start_view s = record { replicas = s.replicas; base = s.service }

-- the line of a `take` as the definition sees it
abbrev pub take_form_view : SpelledTake → TakeForm
take_form_view f =
    record {
      is_whole = f.is_whole;
      replica = f.replica;
      archive = f.archive.now;
      revision = f.revision;
      address = f.address.now;
      len = f.len;
      original = f.original.now;
    }

-- the line of an `ask` as the definition sees it
abbrev pub ask_form_view : SpelledAsk → AskForm
ask_form_view f = record { replica = f.replica; method = f.method.now; count = f.count; target = f.target.now }

-- a command's line as the definition sees it
abbrev pub form_view : code_form.Form → form.Form
form_view (spelled_form.Take f) = form.Take (take_form_view f)
form_view (spelled_form.Map replica original) = form.Map replica original.now
form_view (spelled_form.Gate replica original) = form.Gate replica original.now
form_view (spelled_form.GateAt replica original asked) = form.GateAt replica original.now asked.now
form_view (spelled_form.Ask f) = form.Ask (ask_form_view f)
form_view (spelled_form.Send replica) = form.Send replica
form_view (spelled_form.SendFrom replica merges) = form.SendFrom replica merges
form_view (spelled_form.Deliver replica message) = form.Deliver replica message
form_view (spelled_form.Receive replica len) = form.Receive replica len
form_view (spelled_form.Restart replica) = form.Restart replica
