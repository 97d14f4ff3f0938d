-- The events that come of a script's commands, what is written of their answers, and the worlds that they lead to.
use Rattle.std.specs.Prelude.{◌≡◌, ℕ, ◌≤◌, ◌⊎◌, List, [], ◌∷◌, ◌++◌, length, Some, codes, zip}
use Rattle.memento_time.specs.Text.{IsArchiveName}
use Rattle.timemap_reader.specs.declared.page.Page.{Page}
use Rattle.replica_exchange.specs.Stamps.{StampedState, IsStamped}
use Rattle.timegate.specs.declared.reply.Reply.{Reply}
use Rattle.timegate.specs.declared.request.Request.{Request}
use Rattle.timegate.specs.Reply.{reply_of}
use Rattle.timegate.specs.Route.{original_at}
use Rattle.replica_events.specs.declared.event.Event.{Event}
use Rattle.replica_events.specs.declared.event.Event.TheVariants as event
use Rattle.replica_events.specs.World.{World, Replica, EventAnswer, HasReplica, Run, start}
use Rattle.replica_events.specs.History.{History, LearntAlike}
use Rattle.replica_world.specs.Script.{Taking, Command, Take, Step}
use Rattle.replica_world.specs.Output.{IsPage, most_mementos, harvest_of, accepted_line, answer_text, taken_line}
use Rattle.replica_world.specs.Output.{refusal_text, reply_text}

-- the event takes the harvest of a page of at most 100,000 mementos
pub record IsHarvestTaking (t : Taking) (happens : Event) : Type 0 where
  pub original : List ℕ
  pub page : Page
  pub named : original_at t.original ≡ Some original
  pub read : IsPage t.address t.body page
  pub archive : IsArchiveName t.archive
  pub few : length page.mementos ≤ most_mementos
  pub taken : happens ≡ event.Take t.replica (harvest_of t original page)

-- why a page comes to no event
abbrev pub IsPageRefusal : List ℕ → Type 0
IsPageRefusal why =
    (why ≡ codes "bad original") ⊎ (why ≡ codes "bad page") ⊎ (why ≡ codes "bad archive") ⊎ (why ≡ codes "too many")

-- an event happened, and this was written of its answer
abbrev pub WritesAnswer : List ℕ → Event → History → List ℕ → Type 0
WritesAnswer accepted happens happened text =
    (answer : EventAnswer) × (happened ≡ (happens, answer) ∷ []) × (text ≡ answer_text accepted answer)

-- what happens by a command, and what it writes: a page that makes no harvest comes to no event, and is refused in a
-- line
abbrev pub ComesTo : Command → History → List ℕ → Type 0
ComesTo (Take t) happened text =
    ((happens : Event) × (taking : IsHarvestTaking t happens)
    × WritesAnswer (taken_line taking.page) happens happened text)
    ⊎ (((happens : Event) → ¬ IsHarvestTaking t happens) × (happened ≡ [])
    × ((why : List ℕ) × IsPageRefusal why × (text ≡ refusal_text why)))
ComesTo (Step happens) happened text = WritesAnswer (accepted_line happens) happens happened text

-- commands in turn
abbrev pub ComeTo : List Command → History → List ℕ → Type 0
ComeTo [] happened text = (happened ≡ []) × (text ≡ [])
ComeTo (command ∷ commands) happened text =
    (first : History) × (later : History) × (said : List ℕ) × (more : List ℕ) × ComesTo command first said
    × ComeTo commands later more × (happened ≡ first ++ later) × (text ≡ said ++ more)

-- the events that commands come to lead from one world to the other, and the text is what is written of their answers
pub record IsRunOf (base : List ℕ) (w : World) (commands : List Command) (text : List ℕ) (end : World) : Type 0 where
  pub events : List Event
  pub answers : List EventAnswer
  pub come : ComeTo commands (zip events answers) text
  pub run : Run base w events answers end

-- commands, and then one request to two replicas: if both are there and have learnt alike by the events of the
-- commands, one reply is written twice
pub record AnswersTwice (base : List ℕ) (count : ℕ) (commands : List Command) (i j : ℕ) (output : List ℕ) : Type 0 where
  pub said : List ℕ
  pub mid : World
  pub run : IsRunOf base (start count) commands said mid
  pub twice : HasReplica mid i → HasReplica mid j → LearntAlike (zip run.events run.answers) i j
      → (r : Reply) × (output ≡ said ++ (reply_text r ++ reply_text r))

-- what is written is the reply to the request of the state and the stamps that the replica's merges made
abbrev pub WritesReplyOf : List ℕ → Replica → Request → List ℕ → Type 0
WritesReplyOf base r q text =
    (s : StampedState) × IsStamped r.merges s × (s.incarnation ≡ r.incarnation)
    × (text ≡ reply_text (reply_of base s q))
