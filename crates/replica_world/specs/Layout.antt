-- How a script's parts are laid out: lines before LF, blocks, commands one behind the other.
use Rattle.std.specs.Prelude.{◌≡◌, ◌≢◌, ℕ, zero, suc, ◌<◌, ◌≤◌, ◌⊎◌, List, [], ◌∷◌, ◌++◌, length, replicate, Option}
use Rattle.std.specs.Prelude.{None, Some, codes}
use Rattle.std.specs.Fmt.{decimal}
use Rattle.text_fields.specs.Parts.{Lacks, spaced_fields}
use Rattle.replica_events.specs.declared.event.Event.{Event}
use Rattle.replica_events.specs.declared.event.Event.TheVariants.{Send, SendFrom, Deliver, Receive, Restart, Ask}
use Rattle.replica_world.specs.Fields.{after_empty_lines}
use Rattle.replica_world.specs.Form as form
use Rattle.replica_world.specs.Form.{Form, form_text, IsWritten}
use Rattle.replica_world.specs.Script.{Command, Take, Step, Start, service_of}

-- a part that LF ends and what follows it, or one that is the whole text
abbrev pub IsEnded : List ℕ → List ℕ × List ℕ → Type 0
IsEnded text parts = (text ≡ parts.0 ++ 10 ∷ parts.1) ⊎ ((text ≡ parts.0) × (parts.1 ≡ []))

-- a line of at most 65,536 bytes, and what follows it; at the end of a text is no line
abbrev pub IsLine : List ℕ → List ℕ × List ℕ → Type 0
IsLine text parts = (0 < length text) × (length parts.0 ≤ 65536) × Lacks 10 parts.0 × IsEnded text parts

-- a block of this number of bytes, at most 300,000,000, and what follows it
abbrev pub IsBlock : ℕ → List ℕ → List ℕ × List ℕ → Type 0
IsBlock len text parts = (len ≤ 300000000) × (length parts.0 ≡ len) × IsEnded text parts

-- what stands behind the empty lines at the front of a text
pub record IsBehindEmptyLines (text rest : List ℕ) : Type 0 where
  pub lines : ℕ
  pub whole : text ≡ replicate lines 10 ++ rest
  pub none : (more : List ℕ) → rest ≢ 10 ∷ more

-- lines in turn, and what follows them
abbrev pub AreLines : ℕ → List ℕ → List (List ℕ) → List ℕ → Type 0
AreLines zero text lines rest = (lines ≡ []) × (rest ≡ text)
AreLines (suc count) text lines rest =
    (line : List ℕ) × (after : List ℕ) × (later : List (List ℕ)) × IsLine text (line, after)
    × AreLines count after later rest × (lines ≡ line ∷ later)

-- an event, and nothing more behind its line
abbrev pub MeansEvent : Event → List ℕ → Command → List ℕ → Type 0
MeansEvent event after command rest = (command ≡ Step event) × (rest ≡ after)

-- a question that stands in its line
abbrev pub MeansGet : ℕ → List ℕ → List (List ℕ) → List ℕ → Command → List ℕ → Type 0
MeansGet replica target asked after command rest =
    MeansEvent (Ask replica (record { method = codes "GET"; target = target; asked = asked })) after command rest

-- what a command's line means, by what follows it
abbrev pub Means : Form → List ℕ → Command → List ℕ → Type 0
Means (form.Take f) after command rest =
    (body : List ℕ) × IsBlock f.len after (body, rest)
    × (command ≡ Take (record {
      is_whole = f.is_whole;
      replica = f.replica;
      archive = f.archive;
      revision = f.revision;
      address = f.address;
      body = body;
      original = f.original;
    }))
Means (form.Map replica original) after command rest =
    MeansGet replica (codes "/timemap/link/" ++ original) [] after command rest
Means (form.Gate replica original) after command rest =
    MeansGet replica (codes "/timegate/" ++ original) [] after command rest
Means (form.GateAt replica original asked) after command rest =
    MeansGet replica (codes "/timegate/" ++ original) (asked ∷ []) after command rest
Means (form.Ask f) after command rest =
    (asked : List (List ℕ)) × AreLines f.count after asked rest
    × (command ≡ Step (Ask f.replica (record { method = f.method; target = f.target; asked = asked })))
Means (form.Send replica) after command rest = MeansEvent (Send replica) after command rest
Means (form.SendFrom replica merges) after command rest = MeansEvent (SendFrom replica merges) after command rest
Means (form.Deliver replica message) after command rest = MeansEvent (Deliver replica message) after command rest
Means (form.Receive replica len) after command rest =
    (bytes : List ℕ) × IsBlock len after (bytes, rest) × (command ≡ Step (Receive replica bytes))
Means (form.Restart replica) after command rest = MeansEvent (Restart replica) after command rest

-- a command at the front of a text: its line, and the block or the lines that follow that
pub record IsCommandAt (text : List ℕ) (command : Command) (rest : List ℕ) : Type 0 where
  pub form : Form
  pub after : List ℕ
  pub written : IsWritten form
  pub line : IsLine text (form_text form, after)
  pub means : Means form after command rest

-- `replicas N BASE` at the front of a text
pub record IsStartAt (text : List ℕ) (begin : Start) (rest : List ℕ) : Type 0 where
  pub base : List ℕ
  pub line : IsLine text (spaced_fields (codes "replicas" ∷ decimal begin.replicas ∷ base ∷ []), rest)
  pub some : 1 ≤ begin.replicas
  pub most : begin.replicas ≤ 16
  pub service : service_of base ≡ Some begin.base

-- a text's commands in turn, each behind the one before and its block or lines; they end at the end of the text, or at
-- a bad line
abbrev pub IsReadAs : List ℕ → List Command → Option (List ℕ) → Type 0
IsReadAs text [] None = after_empty_lines text ≡ []
IsReadAs text [] (Some bad) =
    (after_empty_lines text ≡ bad) × (0 < length bad)
    × ((command : Command) (rest : List ℕ) → ¬ IsCommandAt bad command rest)
IsReadAs text (command ∷ commands) bad =
    (rest : List ℕ) × IsCommandAt (after_empty_lines text) command rest × IsReadAs rest commands bad
