-- What a script's commands write.
use Rattle.std.specs.Prelude.{◌≡◌, ℕ, ◌<◌, ◌≤◌, ◌⊎◌, List, [], ◌∷◌, ◌++◌, length, Option, None, Some, MatchOption}
use Rattle.std.specs.Prelude.{Result, Ok, Err, codes}
use Rattle.std.specs.Option.{option_map}
use Rattle.std.specs.List.{flat_map}
use Rattle.std.specs.Fmt.{decimal}
use Rattle.std.specs.Io.KnownBytes.{Appends}
use Rattle.memento_time.specs.Text.{IsArchiveName}
use Rattle.timemap_reader.specs.Answer.{IsAnswer}
use Rattle.timemap_reader.specs.declared.page.Page.{Page}
use Rattle.memento_sets.specs.Sets as set
use Rattle.harvest_lattice.specs.Knowledge.{Harvested}
use Rattle.timegate.specs.declared.reply.Reply.{Reply}
use Rattle.timegate.specs.declared.reply.Header.{Header}
use Rattle.timegate.specs.Reply.{header_name}
use Rattle.timegate.specs.Route.{original_at}
use Rattle.replica_events.specs.declared.event.Event.{Event}
use Rattle.replica_events.specs.declared.event.Event.TheVariants as event
use Rattle.replica_events.specs.declared.event.Said.TheVariants.{Taken, Sent, Joined, Restarted, Replied}
use Rattle.replica_events.specs.declared.event.Refused.{Refused}
use Rattle.replica_world.specs.declared.replaying.fault.ReplayFault.{ReplayFault}
use Rattle.replica_world.specs.declared.replaying.fault.ReplayFault.TheVariants as fault
use Rattle.replica_events.specs.Faults.{words_of}
use Rattle.replica_events.specs.World.{World, EventAnswer, Effect, start}
use Rattle.replica_world.specs.Fields.{utf8_text}
use Rattle.replica_world.specs.Script.{Taking, Command, Take, Step, Start, script_of, commands_of, number_of_line}
use Rattle.replica_world.specs.Script.{bad_line}
use Rattle.replica_world.specs.Devices.{AppendsBeginning}

-- ---- the texts

-- a text ended by LF
abbrev pub line : List ℕ → List ℕ
line text = text ++ 10 ∷ []

-- a word and a number
abbrev pub number_line : List ℕ → ℕ → List ℕ
number_line word number = line (word ++ codes " " ++ decimal number)

-- the line that a refused command writes
abbrev pub refusal_text : List ℕ → List ℕ
refusal_text why = line (codes "refused " ++ why)

-- the line of a header field
abbrev pub header_line : Header × List ℕ → List ℕ
header_line h = line (header_name h.0 ++ codes ": " ++ h.1)

-- the status, the header fields in order, and the body behind its length
abbrev pub reply_text : Reply → List ℕ
reply_text r =
    number_line (codes "reply") r.status ++ flat_map header_line r.headers ++ number_line (codes "body") (length r.body)
    ++ r.body

-- how many mementos and further TimeMaps a page has, and how many links were left out
abbrev pub taken_line : Page → List ℕ
taken_line page =
    line (codes "taken " ++ decimal (length page.mementos) ++ codes " " ++ decimal (length page.further)
    ++ codes " " ++ decimal page.dropped)

-- out of memory ends a replay, and this line is never written
abbrev pub refusal_line : Refused → List ℕ
refusal_line why = refusal_text (words_of why)

-- what an event says if it is accepted and says no number and no reply
abbrev pub accepted_line : Event → List ℕ
accepted_line (event.Take replica harvest) = []
accepted_line (event.Send replica) = []
accepted_line (event.SendFrom replica merges) = []
accepted_line (event.Deliver replica message) = line (codes "joined")
accepted_line (event.Receive replica bytes) = line (codes "received")
accepted_line (event.Restart replica) = line (codes "restarted")
accepted_line (event.Ask replica request) = []

-- what an answer writes
abbrev pub answer_text : List ℕ → EventAnswer → List ℕ
answer_text accepted (Ok Taken) = accepted
answer_text accepted (Ok Joined) = accepted
answer_text accepted (Ok Restarted) = accepted
answer_text accepted (Ok (Sent count)) = number_line (codes "sent") count
answer_text accepted (Ok (Replied reply)) = reply_text reply
answer_text accepted (Err why) = refusal_line why

-- a fault in words
abbrev pub fault_words : ReplayFault → List ℕ
fault_words (fault.BadLine number) = codes "bad line " ++ decimal number
fault_words fault.Read = codes "device fault"
fault_words fault.Write = codes "device fault"
fault_words fault.NoMemory = codes "no memory"

-- ---- the commands

-- an event of the world, and what is written of its answer
abbrev pub Happens : List ℕ → World → List ℕ → Event → List ℕ → World → Type 0
Happens base world accepted event text next =
    (answer : EventAnswer) × Effect base world event answer next × (text ≡ answer_text accepted answer)

-- a refused command changes nothing
abbrev pub RefusedAs : List ℕ → World → List ℕ → World → Type 0
RefusedAs why world text next = (text ≡ refusal_text why) × (next ≡ world)

-- the page that the bytes are at an address
abbrev pub IsPage : List ℕ → List ℕ → Page → Type 0
IsPage address body page = MatchOption (utf8_text address) ⊥ (λ base. IsAnswer base body (Ok page))

-- the harvest that a page makes
abbrev pub harvest_of : Taking → List ℕ → Page → Harvested
harvest_of t original page = record {
  archive = t.archive;
  original = original;
  revision = t.revision;
  is_whole = t.is_whole;
  mementos = set.from_list page.mementos;
}

-- 100,000 mementos
abbrev pub most_mementos : ℕ
most_mementos = 100000

-- a harvest of at most 100,000 mementos in the name of an archive is taken
abbrev pub TakesHarvest : List ℕ → World → Taking → List ℕ → Page → List ℕ → World → Type 0
TakesHarvest base world t original page text next =
    (¬ (IsArchiveName t.archive) × RefusedAs (codes "bad archive") world text next)
    ⊎ (IsArchiveName t.archive × (
    ((most_mementos < length page.mementos) × RefusedAs (codes "too many") world text next)
    ⊎ ((length page.mementos ≤ most_mementos)
    × Happens base world (taken_line page) (event.Take t.replica (harvest_of t original page)) text next)))

-- the mementos of a page are taken, under the original that its text names
abbrev pub TakesPage : List ℕ → World → Taking → List ℕ → World → Type 0
TakesPage base world t text next =
    MatchOption (original_at t.original) (RefusedAs (codes "bad original") world text next) (λ original.
    (((page : Page) → ¬ (IsPage t.address t.body page)) × RefusedAs (codes "bad page") world text next)
    ⊎ ((page : Page) × IsPage t.address t.body page × TakesHarvest base world t original page text next))

-- one command: what it writes, and the world after it
abbrev pub Performs : List ℕ → World → Command → List ℕ → World → Type 0
Performs base world (Take t) text next = TakesPage base world t text next
Performs base world (Step event) text next = Happens base world (accepted_line event) event text next

-- ---- the script

-- commands in turn
abbrev pub Says : List ℕ → World → List Command → List ℕ → World → Type 0
Says base world [] text end = (text ≡ []) × (end ≡ world)
Says base world (command ∷ commands) text end =
    (first : List ℕ) × (next : World) × (later : List ℕ) × Performs base world command first next
    × Says base next commands later end × (text ≡ first ++ later)

-- what the commands before the first bad line write, in a new world; nothing if there is none
abbrev pub Writes : Option Start → List Command → List ℕ → Type 0
Writes None commands output = output ≡ []
Writes (Some s) commands output = (end : World) × Says s.base (start s.replicas) commands output end

-- the output of a script
abbrev pub IsOutput : List ℕ → List ℕ → Type 0
IsOutput script output = Writes (script_of script).start (script_of script).commands.list output

-- What is written and answered if a text has these outputs and this bad line. Unless a device failed or memory was
-- refused, it is a whole output, and the bad line if there is one; else a beginning of each output.
abbrev pub Replayed : (List ℕ → Type 0) → Option ℕ → Option (List ℕ) → Option (List ℕ) → Result (Unit {0}) ReplayFault
    → Type 0
Replayed IsOneOutput bad old new (Ok u) = (output : List ℕ) × IsOneOutput output × Appends old new output × (bad ≡ None)
Replayed IsOneOutput bad old new (Err (fault.BadLine number)) =
    (output : List ℕ) × IsOneOutput output × Appends old new output × (bad ≡ Some number)
Replayed IsOneOutput bad old new (Err fault.Read) =
    (output : List ℕ) → IsOneOutput output → AppendsBeginning old new output
Replayed IsOneOutput bad old new (Err fault.Write) =
    (output : List ℕ) → IsOneOutput output → AppendsBeginning old new output
Replayed IsOneOutput bad old new (Err fault.NoMemory) =
    (output : List ℕ) → IsOneOutput output → AppendsBeginning old new output

-- a whole script
abbrev pub Replays : List ℕ → Option (List ℕ) → Option (List ℕ) → Result (Unit {0}) ReplayFault → Type 0
Replays script old new result = Replayed (IsOutput script) (bad_line script) old new result

-- the commands of a text that ends the script, from a world on
abbrev pub ReplaysFrom : List ℕ → World → List ℕ → List ℕ → Option (List ℕ) → Option (List ℕ)
    → Result (Unit {0}) ReplayFault → Type 0
ReplaysFrom base world script text old new result =
    Replayed (λ output. (end : World) × Says base world (commands_of text).list output end)
    (option_map (number_of_line script) (commands_of text).bad) old new result
