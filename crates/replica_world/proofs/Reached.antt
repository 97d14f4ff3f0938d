-- The commands of a script come to events that lead to its world, and it writes their answers; replicas that have
-- learnt alike write the same.
use Rattle.std.proofs.Common.{◌≡◌, ℕ, ◌<◌, ◌≤◌, ◌⊎◌, List, [], ◌∷◌, length, Option, Some, None, inl, inr, refl, sym, ap, ◌∙◌, subst, append-nil, arith}
use Rattle.std.specs.Prelude.{◌++◌, MatchOption, codes, zip}
use Rattle.timemap_reader.specs.declared.page.Page.{Page}
use Rattle.timegate.specs.declared.reply.Reply.{Reply}
use Rattle.timegate.specs.declared.request.Request.{Request}
use Rattle.timegate.specs.Route.{IsOfTaken, original_at}
use Rattle.harvest_lattice.specs.Lattice.{Entries}
use Rattle.harvest_lattice.specs.Knowledge.{lat}
use Rattle.replica_exchange.specs.Stamps.{StampedState, IsStamped}
use Rattle.timegate.specs.Reply.{reply, reply_of}
use Rattle.timegate.proofs.Replies.{same_reply, reply_from_state}
use Rattle.replica_events.specs.declared.event.Event.{Event}
use Rattle.replica_events.specs.declared.event.Event.TheVariants.{Take, Ask}
use Rattle.replica_events.specs.declared.event.Said.TheVariants.{Replied}
use Rattle.replica_events.specs.declared.event.Refused.TheVariants.{NoReplica}
use Rattle.replica_events.specs.World.{Knowledge, World, Replica, Refuses, Accepts, WithStamped, HasReplica, Run, replica, start, replica_reply, Course}
use Rattle.replica_events.specs.History.{History, LearntAlike}
use Rattle.replica_events.specs.Agreement.{SameHarvests, HasTaken}
use Rattle.replica_world.specs.Script as script
use Rattle.replica_world.specs.Script.{Command, Taking}
use Rattle.replica_world.specs.Output.{Happens, RefusedAs, IsPage, TakesHarvest, TakesPage, Performs, Says, answer_text, reply_text, taken_line, harvest_of}
use Rattle.replica_world.specs.Reached.{IsHarvestTaking, IsPageRefusal, WritesAnswer, ComesTo, IsRunOf, AnswersTwice, WritesReplyOf}
use Rattle.replica_events.proofs.Explained.{same_harvests}
use Rattle.replica_events.proofs.Moments.{merges_made}
use Rattle.replica_world.proofs.Questions.{effect_unchanged}
use Rattle.replica_world.proofs.Once.{OnePage, one_page_is, says_split}
use Rattle.replica_events.proofs.Replies.{same_state}

-- ---- from the world after a command on, and so from the world before it

-- a command that comes to an event, before those that follow
happening_first : (base : List ℕ) (w : World) (accepted : List ℕ) (command : Command) (commands : List Command) (event : Event) (text more : List ℕ) (next end : World)
    → ((happened : History) → WritesAnswer accepted event happened text → ComesTo command happened text) → Happens base w accepted event text next → IsRunOf base next commands more end
    → IsRunOf base w (command ∷ commands) (text ++ more) end
happening_first base w accepted command commands event text more next end comes (answer, effect, is) r = record {
  events = event ∷ r.events;
  answers = answer ∷ r.answers;
  come = ((event, answer) ∷ [], zip r.events r.answers, text, more, comes ((event, answer) ∷ []) (answer, refl, is), r.come, refl, refl);
  run = (next, inl effect, r.run);
}

-- a page that comes to none
refusal_first : (base : List ℕ) (w : World) (t : Taking) (commands : List Command) (why text more : List ℕ) (next end : World)
    → ((event : Event) → ¬ IsHarvestTaking t event) → IsPageRefusal why → RefusedAs why w text next → IsRunOf base next commands more end
    → IsRunOf base w (script.Take t ∷ commands) (text ++ more) end
refusal_first base w t commands why text more next end none is_why (said, same) r = record {
  events = r.events;
  answers = r.answers;
  come = ([], zip r.events r.answers, text, more, inr (none, refl, (why, is_why, said)), r.come, refl, refl);
  run = subst (λ (w : World). Run base w r.events r.answers end) same r.run;
}

-- a page of too many mementos has no harvest, since the bytes are one page at most
too_many : OnePage → (t : Taking) (page : Page) (event : Event) → IsPage t.address t.body page → 100000 < length page.mementos → IsHarvestTaking t event → ⊥
too_many one t page event read many h =
    let few : length page.mementos ≤ 100000 = subst (λ (p : Page). length p.mementos ≤ 100000) (one_page_is one t.address t.body h.page page h.read read) h.few in
    absurd (omega (arith, many, few))

harvest_first : OnePage → (base : List ℕ) (w : World) (t : Taking) (commands : List Command) (original : List ℕ) (page : Page) (text more : List ℕ) (next end : World)
    → original_at t.original ≡ Some original → IsPage t.address t.body page → TakesHarvest base w t original page text next → IsRunOf base next commands more end
    → IsRunOf base w (script.Take t ∷ commands) (text ++ more) end
harvest_first one base w t commands original page text more next end named read (inl (no_name, refusal)) r =
    refusal_first base w t commands (codes "bad archive") text more next end (λ event h. no_name h.archive) (inr (inr (inl refl))) refusal r
harvest_first one base w t commands original page text more next end named read (inr (name, inl (many, refusal))) r =
    refusal_first base w t commands (codes "too many") text more next end (λ event h. too_many one t page event read many h) (inr (inr (inr refl))) refusal r
harvest_first one base w t commands original page text more next end named read (inr (name, inr (few, happens))) r =
    let taking : IsHarvestTaking t (Take t.replica (harvest_of t original page)) = record { original = original; page = page; named = named; read = read; archive = name; few = few; taken = refl } in
    happening_first base w (taken_line page) (script.Take t) commands (Take t.replica (harvest_of t original page)) text more next end
    (λ happened writes. inl (Take t.replica (harvest_of t original page), taking, writes)) happens r

no_original : (t : Taking) (event : Event) → original_at t.original ≡ None → IsHarvestTaking t event → ⊥
no_original t event is h = let no = sym is ∙ h.named in absurd cc

-- what comes of bytes that are a page, or none
abbrev OfPage : List ℕ → World → Taking → List ℕ → World → List ℕ → Type 0
OfPage base w t text next original = (((page : Page) → ¬ (IsPage t.address t.body page)) × RefusedAs (codes "bad page") w text next)
    ⊎ ((page : Page) × IsPage t.address t.body page × TakesHarvest base w t original page text next)

page_first : OnePage → (base : List ℕ) (w : World) (t : Taking) (commands : List Command) (text more : List ℕ) (next end : World)
    → TakesPage base w t text next → IsRunOf base next commands more end → IsRunOf base w (script.Take t ∷ commands) (text ++ more) end
page_first one base w t commands text more next end takes r = of_original (original_at t.original) refl takes where
  of_page : (original : List ℕ) → original_at t.original ≡ Some original
      → OfPage base w t text next original
      → IsRunOf base w (script.Take t ∷ commands) (text ++ more) end
  of_page original named (inl (none, refusal)) = refusal_first base w t commands (codes "bad page") text more next end (λ event h. none h.page h.read) (inr (inl refl)) refusal r
  of_page original named (inr (page, read, harvest)) = harvest_first one base w t commands original page text more next end named read harvest r

  of_original : (o : Option (List ℕ)) → original_at t.original ≡ o
      → MatchOption o (RefusedAs (codes "bad original") w text next)
      (OfPage base w t text next)
      → IsRunOf base w (script.Take t ∷ commands) (text ++ more) end
  of_original None is refusal = refusal_first base w t commands (codes "bad original") text more next end (λ event h. no_original t event is h) (inl refl) refusal r
  of_original (Some original) is of_this = of_page original is of_this

command_first : OnePage → (base : List ℕ) (w : World) (command : Command) (commands : List Command) (text more : List ℕ) (next end : World)
    → Performs base w command text next → IsRunOf base next commands more end → IsRunOf base w (command ∷ commands) (text ++ more) end
command_first one base w (script.Take t) commands text more next end takes r = page_first one base w t commands text more next end takes r
command_first one base w (script.Step event) commands text more next end happens r = happening_first base w _ (script.Step event) commands event text
    more next end (λ happened writes. writes) happens r

-- so the events of commands in turn lead to the world that they end in, and the text is that of their answers
pub commands_run : OnePage → (base : List ℕ) (w : World) (commands : List Command) (text : List ℕ) (end : World) → Says base w commands text end → IsRunOf base w commands text end
commands_run one base w [] text end (is, same) = record { events = []; answers = []; come = (refl, is); run = same }
commands_run one base w (command ∷ commands) text end (first, next, later, performs, says, is) =
    subst (λ (t : List ℕ). IsRunOf base w (command ∷ commands) t end) (sym is)
    (command_first one base w command commands first later next end performs (commands_run one base next commands later end says))

-- ---- questions

-- a question leaves the world as it is
pub question_unchanged : (base : List ℕ) (w : World) (i : ℕ) (q : Request) (text : List ℕ) (next : World) → Performs base w (script.Step (Ask i q)) text next → next ≡ w
question_unchanged base w i q text next (answer, effect, is) = effect_unchanged base w i q answer next effect

-- what it does is to give a reply of the replica's stamps
question_replies : (base : List ℕ) (w : World) (i : ℕ) (r : Replica) (q : Request) (text : List ℕ) (next : World) → replica w i ≡ Some r → Performs base w (script.Step (Ask i q)) text next
    → (s : StampedState) × IsStamped r.merges s × (s.incarnation ≡ r.incarnation) × (text ≡ reply_text (replica_reply base r s q))
question_replies base w i r q text next there (answer, effect, is) =
    let replies : WithStamped r (λ s. Accepts (Replied (replica_reply base r s q)) w) answer next =
    subst (λ (o : Option Replica). MatchOption o (Refuses NoReplica w answer next) (λ r. WithStamped r (λ s. Accepts (Replied (replica_reply base r s q)) w) answer next)) there effect in
    (replies.0, replies.1, replies.2, is ∙ ap (answer_text []) replies.3.0)

-- which is the reply of what its merges made, in a world that a script leads to
pub question_of_merges : OnePage → (base : List ℕ) (count : ℕ) (commands : List Command) (text : List ℕ) (w : World) → Says base (start count) commands text w
    → (i : ℕ) (r : Replica) → replica w i ≡ Some r → (q : Request) (said : List ℕ) (next : World) → Performs base w (script.Step (Ask i q)) said next → WritesReplyOf base r q said
question_of_merges one base count commands text w says i r there q said next performs =
    let run : IsRunOf base (start count) commands text w = commands_run one base (start count) commands text w says in
    let course : Course base = record { count = count; events = run.events; answers = run.answers; world = w; run = run.run } in
    let replies = question_replies base w i r q said next there performs in
    let s : StampedState = replies.0 in
    let state : lat r.taken ≡ s.entries = sym (replies.1.entries ∙ merges_made course i r there) in
    (s, replies.1, replies.2, replies.3 ∙ ap (λ (e : Entries). reply_text (reply_of base (record s { entries = e }) q)) state)

-- a question to a replica that has taken this writes the reply of what it has taken
pub question_writes : (base : List ℕ) (w : World) (i : ℕ) (known : Knowledge) (q : Request) (text : List ℕ) (next : World) → HasTaken w i known
    → IsOfTaken q → Performs base w (script.Step (Ask i q)) text next
    → text ≡ reply_text (reply base known q)
question_writes base w i known q text next (r, there, known_is) compared performs =
    let replies = question_replies base w i r q text next there performs in
    let own : replica_reply base r replies.0 q ≡ reply base r.taken q = reply_from_state base r.taken (record replies.0 { entries = lat r.taken }) q refl compared in
    replies.3 ∙ (ap reply_text own ∙ ap (λ (known : Knowledge). reply_text (reply base known q)) known_is)

-- so two that have taken the same harvests write the same
pub questions_agree : (base : List ℕ) (w : World) (i j : ℕ) (known other : Knowledge) → HasTaken w i known → HasTaken w j other → SameHarvests known other
    → (q : Request) (text again : List ℕ) (next after : World) → IsOfTaken q → Performs base w (script.Step (Ask i q)) text next → Performs base w (script.Step (Ask j q)) again after → text ≡ again
questions_agree base w i j known other i_is j_is same q text again next after compared first second =
    question_writes base w i known q text next i_is compared first
    ∙ (ap reply_text (same_reply base known other q (same_state known other same)) ∙ sym (question_writes base w j other q again after j_is compared second))

-- two questions to replicas that have learnt alike write one reply twice
pub answers_twice : OnePage → (base : List ℕ) (count : ℕ) (commands : List Command) (i j : ℕ) (q : Request) (output : List ℕ) (end : World)
    → IsOfTaken q → Says base (start count) (commands ++ script.Step (Ask i q) ∷ script.Step (Ask j q) ∷ []) output end → AnswersTwice base count commands i j output
answers_twice one base count commands i j q output end compared says =
    let parts = says_split base (start count) commands (script.Step (Ask i q) ∷ script.Step (Ask j q) ∷ []) output end says in
    let run : IsRunOf base (start count) commands parts.0 parts.1 = commands_run one base (start count) commands parts.0 parts.1 parts.3 in
    record {
      said = parts.0;
      mid = parts.1;
      run = run;
      twice = λ here there alike. replies parts.1 parts.2 end run here there alike parts.4 parts.5;
    } where
      replies : {said : List ℕ} (mid : World) (more : List ℕ) (end : World) (run : IsRunOf base (start count) commands said mid) → HasReplica mid i
          → HasReplica mid j → LearntAlike (zip run.events run.answers) i j
          → Says base mid (script.Step (Ask i q) ∷ script.Step (Ask j q) ∷ []) more end → output ≡ said ++ more → (r : Reply) × (output ≡ said ++ (reply_text r ++ reply_text r))
      replies {said} mid more end run (one_there, i_is) (other_there, j_is) alike (first, next, later, asked, (second, last, none, again, nothing, later_is), more_is) whole =
          let course : Course base = record { count = count; events = run.events; answers = run.answers; world = mid; run = run.run } in
          let known : Knowledge = one_there.taken in
          let other : Knowledge = other_there.taken in
          let one_writes = question_writes base mid i known q first next (one_there, i_is, refl) compared asked in
          let again_there : Performs base mid (script.Step (Ask j q)) second last = subst
          (λ (w : World). Performs base w (script.Step (Ask j q)) second last) (question_unchanged base mid i q first next asked) again in
          let other_writes = question_writes base mid j other q second last (other_there, j_is, refl) compared again_there in
          let same : reply base known q ≡ reply base other q =
          same_reply base known other q (same_state known other (same_harvests course i j known other (one_there, i_is, refl) (other_there, j_is, refl) alike)) in
          let later_text : later ≡ reply_text (reply base known q) =
          later_is ∙ ap (λ (t : List ℕ). second ++ t) nothing.0 ∙ append-nil second ∙ other_writes ∙ ap reply_text (sym same) in
          (reply base known q, whole ∙ ap (λ (t : List ℕ). said ++ t) (more_is ∙ (λ k. one_writes k ++ later_text k)))
