-- What a step does, by the event and its answer.
use Rattle.std.proofs.Common.{◌≡◌, ℕ, ◌+◌, ◌⊎◌, true, List, [], ◌∷◌, ◌++◌, length, Option, Some, None, Ok, Err, MatchOption, zip, refl, sym, subst, append_assoc, append-nil, inl, inr}
use Rattle.harvest_lattice.specs.Lattice.{Entries}
use Rattle.harvest_lattice.specs.Knowledge.{Harvested, adds}
use Rattle.memento_index.specs.declared.merge.Merge.TheVariants as merge
use Rattle.std.specs.FinMap as map
use Rattle.timegate.specs.declared.reply.Reply.{Reply}
use Rattle.timegate.specs.declared.request.Request.{Request}
use Rattle.replica_exchange.specs.declared.cursor.Cursor.{Cursor}
use Rattle.replica_exchange.specs.Stamps.{StampedState, IsStamped}
use Rattle.replica_exchange.specs.CursorRule.{delta_from, fits}
use Rattle.replica_events.specs.declared.event.Event.{Event}
use Rattle.replica_events.specs.declared.event.Event.TheVariants.{Take, Send, SendFrom, Deliver, Receive, Restart, Ask}
use Rattle.replica_events.specs.declared.event.Said.{Said}
use Rattle.replica_events.specs.declared.event.Said.TheVariants.{Taken, Sent, Joined, Restarted, Replied}
use Rattle.replica_events.specs.declared.event.Refused.{Refused}
use Rattle.replica_events.specs.declared.event.Refused.TheVariants.{NoReplica, NoMessage, BadState, NoMemory, Gap, NumbersSpent}
use Rattle.replica_events.specs.World as world
use Rattle.replica_events.specs.World.{World, Replica, Message, EventAnswer, Outcome, Course, start, Effect, Step, Run, Accepts, Refuses, WithMessage}
use Rattle.replica_events.specs.World.{WithStamped, IfWithinLimit, IfNumberLeft, IsText, IfText, Merges, Joins, replica, message}
use Rattle.replica_events.specs.World.{with_replica, with_message, after_merge, after_join, sent_by, own_cursor, replica_reply, after_restart}
use Rattle.replica_events.specs.History.{Happened, History, history_of, sender_of}
use Rattle.replica_events.proofs.Histories.{IsRestart}

-- the event was refused, or a question that was replied to
abbrev pub IsIdle : Event → EventAnswer → Type 0
IsIdle event answer =
    ((why : Refused) × (answer ≡ Err why)) ⊎ ((i : ℕ) × (q : Request) × (r : Reply) × (event ≡ Ask i q) × (answer ≡ Ok (Replied r)))

pub idle_not_restarted : (event : Event) (answer : EventAnswer) → IsIdle event answer → (i : ℕ) → ¬ IsRestart event answer i
idle_not_restarted event answer (inl (why, answer_is)) i restarts = let other = restarts.1 in cc
idle_not_restarted event answer (inr (j, q, reply, event_is, answer_is)) i restarts = let other = restarts.1 in cc

-- what happened in the world by the event, whose answer this is
pub data Change (w : World) (event : Event) (answer : EventAnswer) (new : World) : Type 0 where
  idle : IsIdle event answer → new ≡ w → Change w event answer new
  took : (i : ℕ) (h : Harvested) (r : Replica) → replica w i ≡ Some r → event ≡ Take i h → answer ≡ Ok Taken
      → new ≡ with_replica w i (after_merge r (h ∷ []) (merge.Harvest h)) → Change w event answer new
  received : (i : ℕ) (bytes : List ℕ) (s : Entries) (r : Replica) → replica w i ≡ Some r → IsText bytes s → event ≡ Receive i bytes → answer ≡ Ok Joined
      → new ≡ with_replica w i (after_merge r (adds s) (merge.State s)) → Change w event answer new
  joined : (i k : ℕ) (r : Replica) (m : Message) → replica w i ≡ Some r → message w k ≡ Some m → fits (map.get r.cursors m.sender) m.delta ≡ true → event ≡ Deliver i k
      → answer ≡ Ok Joined → new ≡ with_replica w i (after_join r m) → Change w event answer new
  sent : (i : ℕ) (r : Replica) (s : StampedState) (cursor : Option Cursor) → replica w i ≡ Some r → IsStamped r.merges s → s.incarnation ≡ r.incarnation
      → sender_of event ≡ Some i → answer ≡ Ok (Sent (length w.messages + 1)) → new ≡ with_message w (sent_by i r (delta_from s cursor)) → Change w event answer new
  restarted : (i : ℕ) (r : Replica) → replica w i ≡ Some r → event ≡ Restart i → answer ≡ Ok Restarted → new ≡ after_restart w i → Change w event answer new

module _ (w : World) where
  refused : (event : Event) (why : Refused) (answer : EventAnswer) (new : World) → Refuses why w answer new → Change w event answer new
  refused event why answer new p = idle (inl (why, p.0)) p.1

  given : {X : Type 0} (event : Event) (o : Option X) (happens : X → Outcome) (why : Refused) (answer : EventAnswer) (new : World)
      → MatchOption o (Refuses why w answer new) (λ x. happens x answer new)
      → ((x : X) → o ≡ Some x → happens x answer new → Change w event answer new) → Change w event answer new
  given event None happens why answer new p found = refused event why answer new p
  given event (Some x) happens why answer new p found = found x refl p

  left : (event : Event) (n : ℕ) (said : Said) (next : World) (answer : EventAnswer) (new : World) → (answer ≡ Ok said → new ≡ next → Change w event answer new)
      → IfNumberLeft n (Accepts said next) (Refuses NumbersSpent w) answer new → Change w event answer new
  left event n said next answer new accepted (inl (few, p)) = accepted p.0 p.1
  left event n said next answer new accepted (inr (spent, p)) = refused event NumbersSpent answer new p

  sends : (event : Event) (i : ℕ) (cursor : Replica → Option Cursor) (answer : EventAnswer) (new : World) → sender_of event ≡ Some i → world.Sends w i cursor answer new → Change w event answer new
  sends event i cursor answer new is_sender effect =
      given event (replica w i) (λ r. WithStamped r (λ s. Accepts (Sent (length w.messages + 1)) (with_message w (sent_by i r (delta_from s (cursor r)))))) NoReplica answer new effect
      (λ r there p. sent i r p.0 (cursor r) there p.1 p.2 is_sender p.3.0 p.3.1)

  joins : (i k : ℕ) (r : Replica) (m : Message) (answer : EventAnswer) (new : World) → replica w i ≡ Some r → message w k ≡ Some m
      → IfWithinLimit m.bytes (Joins w i r m) (Refuses BadState w) answer new → Change w (Deliver i k) answer new
  joins i k r m answer new there found (inl (few, inl (fit, p))) =
      left (Deliver i k) (length r.merges) Joined (with_replica w i (after_join r m)) answer new (λ said is. joined i k r m there found fit refl said is) p
  joins i k r m answer new there found (inl (few, inr (gap, p))) = refused (Deliver i k) (Gap (map.get r.cursors m.sender)) answer new p
  joins i k r m answer new there found (inr (many, p)) = refused (Deliver i k) BadState answer new p

  receives : (i : ℕ) (bytes : List ℕ) (r : Replica) (answer : EventAnswer) (new : World) → replica w i ≡ Some r
      → IfText bytes (λ s. Merges w r Joined (with_replica w i (after_merge r (adds s) (merge.State s)))) (Refuses BadState w) answer new → Change w (Receive i bytes) answer new
  receives i bytes r answer new there (inl (s, is_text, p)) =
      left (Receive i bytes) (length r.merges) Joined (with_replica w i (after_merge r (adds s) (merge.State s))) answer new (λ said is. received i bytes s r there is_text refl said is) p
  receives i bytes r answer new there (inr (none, p)) = refused (Receive i bytes) BadState answer new p

  effect_changes : (base : List ℕ) (event : Event) (answer : EventAnswer) (new : World) → Effect base w event answer new → Change w event answer new
  effect_changes base (Take i h) answer new effect =
      given (Take i h) (replica w i) (λ r. Merges w r Taken (with_replica w i (after_merge r (h ∷ []) (merge.Harvest h)))) NoReplica answer new effect
      (λ r there p. left (Take i h) (length r.merges) Taken (with_replica w i (after_merge r (h ∷ []) (merge.Harvest h))) answer new (λ said is. took i h r there refl said is) p)
  effect_changes base (Send i) answer new effect = sends (Send i) i (λ _. None) answer new refl effect
  effect_changes base (SendFrom i n) answer new effect = sends (SendFrom i n) i (own_cursor n) answer new refl effect
  effect_changes base (Deliver i k) answer new effect =
      given (Deliver i k) (replica w i) (λ r. WithMessage w k (λ m. IfWithinLimit m.bytes (Joins w i r m) (Refuses BadState w))) NoReplica answer new effect
      (λ r there p. given (Deliver i k) (message w k) (λ m. IfWithinLimit m.bytes (Joins w i r m) (Refuses BadState w)) NoMessage answer new p
      (λ m found q. joins i k r m answer new there found q))
  effect_changes base (Receive i bytes) answer new effect =
      given (Receive i bytes) (replica w i) (λ r. IfText bytes (λ s. Merges w r Joined (with_replica w i (after_merge r (adds s) (merge.State s)))) (Refuses BadState w)) NoReplica answer new effect
      (λ r there p. receives i bytes r answer new there p)
  effect_changes base (Restart i) answer new effect =
      given (Restart i) (replica w i) (λ r. IfNumberLeft w.last (Accepts Restarted (after_restart w i)) (Refuses NumbersSpent w)) NoReplica answer new effect
      (λ r there p. left (Restart i) w.last Restarted (after_restart w i) answer new (λ said is. restarted i r there refl said is) p)
  effect_changes base (Ask i q) answer new effect =
      given (Ask i q) (replica w i) (λ r. WithStamped r (λ s. Accepts (Replied (replica_reply base r s q)) w)) NoReplica answer new effect
      (λ r there p. idle (inr (i, q, replica_reply base r p.0 q, refl, p.3.0)) p.3.1)

  pub step_changes : (base : List ℕ) (event : Event) (answer : EventAnswer) (new : World) → Step base w event answer new → Change w event answer new
  step_changes base event answer new (inl effect) = effect_changes base event answer new effect
  step_changes base event answer new (inr out) = idle (inl (NoMemory, out.0)) out.1

-- ---- runs

-- what holds of the history with an event and its answer, where these are those
pub happened_as : (P : History → World → Type 0) (history : History) (event other : Event) (answer said : EventAnswer) (new next : World) → event ≡ other → answer ≡ said → new ≡ next
    → P (history ++ (other, said) ∷ []) next → P (history ++ (event, answer) ∷ []) new
happened_as P history event other answer said new next event_is answer_is new_is holds =
    subst (P (history ++ (event, answer) ∷ [])) (sym new_is) (subst (λ (x : Happened). P (history ++ x ∷ []) next) (λ j. (sym event_is j, sym answer_is j)) holds)

-- each change keeps it
abbrev pub IsKept : (History → World → Type 0) → Type 0
IsKept P = (history : History) (w : World) (event : Event) (answer : EventAnswer) (new : World) → P history w → Change w event answer new → P (history ++ (event, answer) ∷ []) new

-- what each change keeps, a run keeps
pub run_keeps : (P : History → World → Type 0) → IsKept P → (base : List ℕ) (history : History) (w : World) (events : List Event) (answers : List EventAnswer) (end : World) → P history w
    → Run base w events answers end → P (history ++ zip events answers) end
run_keeps P kept base history w [] [] end holds run = subst (P (history ++ [])) (sym run) (subst (λ (l : History). P l w) (sym (append-nil history)) holds)
run_keeps P kept base history w [] (answer ∷ answers) end holds run = absurd run
run_keeps P kept base history w (event ∷ events) [] end holds run = absurd run
run_keeps P kept base history w (event ∷ events) (answer ∷ answers) end holds run =
    let next = kept history w event answer run.0 holds (step_changes w base event answer run.0 run.1) in
    subst (λ (l : History). P l end) (append_assoc history ((event, answer) ∷ []) (zip events answers))
    (run_keeps P kept base (history ++ (event, answer) ∷ []) run.0 events answers end next run.2)

-- and so it holds after every course, where it holds at first
pub course_keeps : (P : History → World → Type 0) → IsKept P → {base : List ℕ} (course : Course base) → P [] (start course.count) → P (history_of course) course.world
course_keeps P kept {base} course first = run_keeps P kept base [] (start course.count) course.events course.answers course.world first course.run
