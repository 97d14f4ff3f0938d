-- A script as a list of commands: what each line says, with the block or the lines that follow it.
use Rattle.std.specs.Prelude.{ℕ, zero, suc, ◌+◌, ◌-◌, ◌&&◌, Bool, List, [], ◌∷◌, ◌++◌, length, take, Option, None, Some}
use Rattle.std.specs.Prelude.{nat_le, ◌==◌, if◌then◌else◌, count_by, codes, bytes_eq}
use Rattle.std.specs.Option.{option_map, option_and_then}
use Rattle.timegate.specs.declared.request.Request.{Request}
use Rattle.timemap_writer.specs.Service.{base_of}
use Rattle.replica_events.specs.declared.event.Event.{Event}
use Rattle.replica_events.specs.declared.event.Event.TheVariants.{Send, SendFrom, Deliver, Receive, Restart, Ask}
use Rattle.replica_world.specs.Fields.{field, line_of, after_empty_lines, number_field, utf8_text, block_of}
use Rattle.replica_world.specs.Fields.{lines_of}
use Rattle.replica_world.specs.Form as form
use Rattle.replica_world.specs.Form.{Form, TakeForm, form_of}
use Rattle.link_format.specs.Scan.{◌>>=◌}

-- the body of a page at an address, to be read and taken as a whole harvest or as a part harvest
pub record Taking : Type 0 where
  pub is_whole : Bool
  pub replica : ℕ
  pub archive : List ℕ
  pub revision : ℕ
  pub address : List ℕ
  pub body : List ℕ
  pub original : List ℕ

-- a page to be taken, or an event of the world
pub data Command : Type 0 where
  Take : Taking → Command
  Step : Event → Command

-- a command, and the text behind it
abbrev pub Found : Type 0
Found = Option (Command × List ℕ)

-- a GET with these values of `Accept-Datetime`
abbrev pub get : List ℕ → List (List ℕ) → Request
get target asked = record { method = codes "GET"; target = target; asked = asked }

-- a page to be taken, with the block that follows its line
abbrev pub taking_of : TakeForm → List ℕ → Taking
taking_of f body =
    record {
      is_whole = f.is_whole;
      replica = f.replica;
      archive = f.archive;
      revision = f.revision;
      address = f.address;
      body = body;
      original = f.original;
    }

-- an event, and the text behind its command
abbrev pub step_and_rest : Event → List ℕ → Found
step_and_rest event rest = Some (Step event, rest)

-- the command of a line, with the block or the lines that follow it
unfoldable pub command_of : Form → List ℕ → Found
command_of (form.Take f) rest = do
  body ← block_of f.len rest
  Some (Take (taking_of f body.0), body.1)
command_of (form.Map replica original) rest = step_and_rest (Ask replica (get (codes "/timemap/link/" ++ original) [])) rest
command_of (form.Gate replica original) rest = step_and_rest (Ask replica (get (codes "/timegate/" ++ original) [])) rest
command_of (form.GateAt replica original asked) rest =
    step_and_rest (Ask replica (get (codes "/timegate/" ++ original) (asked ∷ []))) rest
command_of (form.Ask f) rest = do
  asked ← lines_of f.count rest
  step_and_rest (Ask f.replica (record { method = f.method; target = f.target; asked = asked.0 })) asked.1
command_of (form.Send replica) rest = step_and_rest (Send replica) rest
command_of (form.SendFrom replica merges) rest = step_and_rest (SendFrom replica merges) rest
command_of (form.Deliver replica message) rest = step_and_rest (Deliver replica message) rest
command_of (form.Receive replica len) rest = do
  body ← block_of len rest
  step_and_rest (Receive replica body.0) body.1
command_of (form.Restart replica) rest = step_and_rest (Restart replica) rest

-- the command at the front of a text; none if the line is bad
unfoldable pub command_at : List ℕ → Found
command_at text = do
  line ← line_of text
  said ← form_of line.0
  command_of said line.1

-- this number of replicas of the service with this base
pub record Start : Type 0 where
  pub replicas : ℕ
  pub base : List ℕ

-- the count and the base's text that `replicas N BASE` names
abbrev pub replicas_of : List ℕ → Option (ℕ × List ℕ)
replicas_of line = do
  word ← field line
  count ← number_field word.1
  if bytes_eq word.0 (codes "replicas") && nat_le 1 count.0 && nat_le count.0 16 then Some count else None

-- the base of the service that a text names
abbrev pub service_of : List ℕ → Option (List ℕ)
service_of bytes = option_and_then base_of (utf8_text bytes)

-- what the first line says: the number of replicas and the base
unfoldable pub start_of : List ℕ → Option Start
start_of line = do
  count ← replicas_of line
  base ← service_of count.1
  Some (record { replicas = count.0; base = base })

-- what the first line says, and the text behind it
unfoldable pub start_at : List ℕ → Option (Start × List ℕ)
start_at text = do
  line ← line_of text
  start ← start_of line.0
  Some (start, line.1)

-- commands, and the text from the bad line on, if there is one
pub record Commands : Type 0 where
  pub list : List Command
  pub bad : Option (List ℕ)

-- nothing is left
abbrev pub no_more : Commands
no_more = record { list = []; bad = None }

-- the script has a bad line from here on
abbrev pub bad_from : List ℕ → Commands
bad_from text = record { list = []; bad = Some text }

-- a command before those that follow
abbrev pub command_before : Command → Commands → Commands
command_before command later = record { list = command ∷ later.list; bad = later.bad }

-- the script from a command on
abbrev pub onward : List ℕ → Found → (List ℕ → Commands) → Commands
onward text None next = bad_from text
onward text (Some found) next = command_before found.0 (next found.1)

-- the commands of a text of at most this number of bytes, whose first line isn't empty
unfoldable pub commands_within : ℕ → List ℕ → Commands
commands_within zero text = no_more
commands_within (suc bytes) [] = no_more
commands_within (suc bytes) (b ∷ text) =
    onward (b ∷ text) (command_at (b ∷ text)) (λ rest. commands_within bytes (after_empty_lines rest))

-- the commands of a text, up to a bad line
unfoldable pub commands_of : List ℕ → Commands
commands_of text = commands_within (length text) (after_empty_lines text)

-- how it starts, unless it is empty or its first line is bad, and its commands
pub record Script : Type 0 where
  pub start : Option Start
  pub commands : Commands

-- the script that its first line begins
abbrev pub script_begun_by : List ℕ → Option (Start × List ℕ) → Script
script_begun_by text None = record { start = None; commands = bad_from text }
script_begun_by text (Some found) = record { start = Some found.0; commands = commands_of found.1 }

-- the script from its first line that is not empty
abbrev pub script_from : List ℕ → Script
script_from [] = record { start = None; commands = no_more }
script_from (b ∷ text) = script_begun_by (b ∷ text) (start_at (b ∷ text))

-- a text as a script
unfoldable pub script_of : List ℕ → Script
script_of text = script_from (after_empty_lines text)

-- a line's number is one more than the LF bytes before it, those in blocks included
abbrev pub number_of_line : List ℕ → List ℕ → ℕ
number_of_line text rest = 1 + count_by (λ b. b == 10) (take (length text - length rest) text)

-- the number of the line at which a script ends before its end, if any
abbrev pub bad_line : List ℕ → Option ℕ
bad_line text = option_map (number_of_line text) (script_of text).commands.bad
