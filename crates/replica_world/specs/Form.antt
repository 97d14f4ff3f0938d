-- The lines of commands: how each is written, and how it is read.
use Rattle.std.specs.Prelude.{ℕ, ◌<◌, ◌≤◌, ◌^◌, ◌&&◌, Bool, true, false, List, [], ◌∷◌, length, Option, None, Some}
use Rattle.std.specs.Prelude.{nat_le, if◌then◌else◌, codes, bytes_eq, IsTrue}
use Rattle.std.specs.Fmt.{decimal}
use Rattle.std.specs.List.{list_all}
use Rattle.text_fields.specs.Decimals.{number_of}
use Rattle.text_fields.specs.Parts.{Lacks, space, spaced_fields}
use Rattle.replica_world.specs.Fields.{field, number_field, word_field, is_visible}
use Rattle.link_format.specs.Scan.{◌>>=◌}

-- `take I ARCHIVE REVISION PAGEURL LENGTH ORIGINAL`, which takes a whole harvest, or the same behind `takepart`, which
-- takes a part harvest
pub record TakeForm : Type 0 where
  pub is_whole : Bool
  pub replica : ℕ
  pub archive : List ℕ
  pub revision : ℕ
  pub address : List ℕ
  pub len : ℕ
  pub original : List ℕ

-- `ask I METHOD COUNT TARGET`
pub record AskForm : Type 0 where
  pub replica : ℕ
  pub method : List ℕ
  pub count : ℕ
  pub target : List ℕ

-- what the line of a command says
pub data Form : Type 0 where
  Take : TakeForm → Form
  Map : ℕ → List ℕ → Form
  Gate : ℕ → List ℕ → Form
  -- with the asked datetime behind the original
  GateAt : ℕ → List ℕ → List ℕ → Form
  Ask : AskForm → Form
  Send : ℕ → Form
  SendFrom : ℕ → ℕ → Form
  Deliver : ℕ → ℕ → Form
  Receive : ℕ → ℕ → Form
  Restart : ℕ → Form

-- 16 values of `Accept-Datetime`
abbrev pub most_asked : ℕ
most_asked = 16

-- ---- how it is written

-- the word that takes a whole harvest, or a part harvest
abbrev pub take_word : Bool → List ℕ
take_word true = codes "take"
take_word false = codes "takepart"

-- the line of a command
abbrev pub form_text : Form → List ℕ
form_text (Take f) =
    spaced_fields
    (take_word f.is_whole ∷ decimal f.replica ∷ f.archive ∷ decimal f.revision ∷ f.address ∷ decimal f.len ∷ f.original
    ∷ [])
form_text (Map replica original) = spaced_fields (codes "map" ∷ decimal replica ∷ original ∷ [])
form_text (Gate replica original) = spaced_fields (codes "gate" ∷ decimal replica ∷ original ∷ [])
form_text (GateAt replica original asked) = spaced_fields (codes "gate" ∷ decimal replica ∷ original ∷ asked ∷ [])
form_text (Ask f) = spaced_fields (codes "ask" ∷ decimal f.replica ∷ f.method ∷ decimal f.count ∷ f.target ∷ [])
form_text (Send replica) = spaced_fields (codes "send" ∷ decimal replica ∷ [])
form_text (SendFrom replica merges) = spaced_fields (codes "sendfrom" ∷ decimal replica ∷ decimal merges ∷ [])
form_text (Deliver replica message) = spaced_fields (codes "deliver" ∷ decimal replica ∷ decimal message ∷ [])
form_text (Receive replica len) = spaced_fields (codes "receive" ∷ decimal replica ∷ decimal len ∷ [])
form_text (Restart replica) = spaced_fields (codes "restart" ∷ decimal replica ∷ [])

-- a number of 64 bits
abbrev pub IsNumber : ℕ → Type 0
IsNumber n = n < 2 ^ 64

-- a field of at least one byte, and no space
abbrev pub IsWord : List ℕ → Type 0
IsWord word = (0 < length word) × Lacks space word

-- a visible ASCII text of at least one byte
abbrev pub IsMethod : List ℕ → Type 0
IsMethod method = IsWord method × IsTrue (list_all is_visible method)

-- the values that a line can have; its last field is the rest of the line, spaces and all
abbrev pub IsWritten : Form → Type 0
IsWritten (Take f) = IsNumber f.replica × IsWord f.archive × IsNumber f.revision × IsWord f.address × IsNumber f.len
IsWritten (Map replica original) = IsNumber replica
IsWritten (Gate replica original) = IsNumber replica × Lacks space original
IsWritten (GateAt replica original asked) = IsNumber replica × Lacks space original
IsWritten (Ask f) = IsNumber f.replica × IsMethod f.method × (f.count ≤ most_asked)
IsWritten (Send replica) = IsNumber replica
IsWritten (SendFrom replica merges) = IsNumber replica × IsNumber merges
IsWritten (Deliver replica message) = IsNumber replica × IsNumber message
IsWritten (Receive replica len) = IsNumber replica × IsNumber len
IsWritten (Restart replica) = IsNumber replica

-- ---- how it is read

-- behind `take` or `takepart`
unfoldable pub take_of : Bool → List ℕ → Option Form
take_of is_whole fields = do
  replica ← number_field fields
  archive ← word_field replica.1
  revision ← number_field archive.1
  address ← word_field revision.1
  len ← number_field address.1
  Some (Take (record {
    is_whole = is_whole;
    replica = replica.0;
    archive = archive.0;
    revision = revision.0;
    address = address.0;
    len = len.0;
    original = len.1;
  }))

-- behind `map`
unfoldable pub map_of : List ℕ → Option Form
map_of fields = do
  replica ← number_field fields
  Some (Map replica.0 replica.1)

-- an original alone, or one that ends at the first space, and the asked datetime behind that
abbrev pub gate_at : ℕ → List ℕ → Option (List ℕ × List ℕ) → Form
gate_at replica original None = Gate replica original
gate_at replica fields (Some parts) = GateAt replica parts.0 parts.1

-- behind `gate`
unfoldable pub gate_of : List ℕ → Option Form
gate_of fields = do
  replica ← number_field fields
  Some (gate_at replica.0 replica.1 (field replica.1))

-- behind `ask`
unfoldable pub ask_of : List ℕ → Option Form
ask_of fields = do
  replica ← number_field fields
  method ← word_field replica.1
  count ← number_field method.1
  if list_all is_visible method.0 && nat_le count.0 most_asked
      then Some (Ask (record { replica = replica.0; method = method.0; count = count.0; target = count.1 }))
      else None

-- behind `send`
unfoldable pub send_of : List ℕ → Option Form
send_of fields = do
  replica ← number_of fields
  Some (Send replica)

-- behind `sendfrom`
unfoldable pub send_from_of : List ℕ → Option Form
send_from_of fields = do
  replica ← number_field fields
  merges ← number_of replica.1
  Some (SendFrom replica.0 merges)

-- behind `deliver`
unfoldable pub deliver_of : List ℕ → Option Form
deliver_of fields = do
  replica ← number_field fields
  message ← number_of replica.1
  Some (Deliver replica.0 message)

-- behind `receive`
unfoldable pub receive_of : List ℕ → Option Form
receive_of fields = do
  replica ← number_field fields
  len ← number_of replica.1
  Some (Receive replica.0 len)

-- behind `restart`
unfoldable pub restart_of : List ℕ → Option Form
restart_of fields = do
  replica ← number_of fields
  Some (Restart replica)

-- by the word that the line begins with
unfoldable pub form_by_word : List ℕ → List ℕ → Option Form
form_by_word word fields =
    if bytes_eq word (codes "take") then take_of true fields
    else if bytes_eq word (codes "takepart") then take_of false fields
    else if bytes_eq word (codes "map") then map_of fields
    else if bytes_eq word (codes "gate") then gate_of fields
    else if bytes_eq word (codes "ask") then ask_of fields
    else if bytes_eq word (codes "send") then send_of fields
    else if bytes_eq word (codes "sendfrom") then send_from_of fields
    else if bytes_eq word (codes "deliver") then deliver_of fields
    else if bytes_eq word (codes "receive") then receive_of fields
    else if bytes_eq word (codes "restart") then restart_of fields
    else None

-- what a line says; none if it is no command
unfoldable pub form_of : List ℕ → Option Form
form_of line = do
  word ← field line
  form_by_word word.0 word.1
