-- Two questions after a run.
use Rattle.std.proofs.Common.{◌≡◌, ℕ, List, subst, refl, ◌∙◌, Ok, inl, inr}
use Rattle.std.specs.Prelude.{Option, Some, None, MatchOption, Err}
use Rattle.timegate.specs.declared.request.Request.{Request}
use Rattle.timegate.specs.declared.reply.Reply.{Reply}
use Rattle.replica_events.specs.declared.event.Event.{Event}
use Rattle.replica_events.specs.declared.event.Event.TheVariants.{Ask}
use Rattle.replica_events.specs.declared.event.Said.TheVariants.{Replied}
use Rattle.replica_events.specs.declared.event.Refused.TheVariants.{NoReplica}
use Rattle.replica_world.specs.declared.asked.Asked.{Asked}
use Rattle.replica_events.specs.World.{Knowledge, World, Replica, EventAnswer, Course, Run, Step, Effect, Refuses, Accepts, WithStamped, replica, replica_reply, start}
use Rattle.replica_events.specs.History.{LearntAlike, history_of}
use Rattle.replica_world.specs.Stands.{Kept, Stands, Steps, Runs}
use Rattle.timegate.specs.Route.{IsOfTaken}
use Rattle.replica_events.specs.Agreement.{HasTaken, Gives}
use Rattle.replica_world.specs.Asked.{AgreeAfter}
use Rattle.replica_events.proofs.Explained.{same_harvests}
use Rattle.replica_events.proofs.Replies.{same_state, agreement}

-- a question leaves the world as it is
effect_stays : (base : List ℕ) (w : World) (q : Request) (answer : EventAnswer) (next : World) (o : Option Replica)
    → MatchOption o (Refuses NoReplica w answer next) (λ r. WithStamped r (λ s. Accepts (Replied (replica_reply base r s q)) w) answer next) → next ≡ w
effect_stays base w q answer next None effect = effect.1
effect_stays base w q answer next (Some r) effect = effect.3.1

pub effect_unchanged : (base : List ℕ) (w : World) (i : ℕ) (q : Request) (answer : EventAnswer) (next : World) → Effect base w (Ask i q) answer next → next ≡ w
effect_unchanged base w i q answer next effect = effect_stays base w q answer next (replica w i) effect

stays : (base : List ℕ) (w : World) (i : ℕ) (q : Request) (answer : EventAnswer) (next : World) → Step base w (Ask i q) answer next → next ≡ w
stays base w i q answer next (inl effect) = effect_unchanged base w i q answer next effect
stays base w i q answer next (inr out) = out.1

question : (base : List ℕ) (kept : Kept) (w : World) (i : ℕ) (q : Request) (answer : EventAnswer) → kept.base ≡ base → Stands kept w → Steps kept (Ask i q) answer kept → Step base w (Ask i q) answer w
question base kept w i q answer base_is stands steps =
    let led = steps.leads w stands in
    let step : Step base w (Ask i q) answer led.next = subst (λ (b : List ℕ). Step b w (Ask i q) answer led.next) base_is led.step in
    subst (λ (next : World). Step base w (Ask i q) answer next) (stays base w i q answer led.next step) step

replied : (base : List ℕ) (w : World) (i : ℕ) (q : Request) (answer : EventAnswer) (r : Reply) → Step base w (Ask i q) answer w → answer ≡ Ok (Replied r) → Gives base w i q r
replied base w i q answer r step is = record { next = w; asked = subst (λ (a : EventAnswer). Step base w (Ask i q) a w) is step }

-- one that replies is there, and has taken something
there : (base : List ℕ) (w : World) (i : ℕ) (q : Request) (r : Reply) (next : World) (o : Option Replica) → replica w i ≡ o
    → MatchOption o (Refuses NoReplica w (Ok (Replied r)) next) (λ a. WithStamped a (λ s. Accepts (Replied (replica_reply base a s q)) w) (Ok (Replied r)) next)
    → (known : Knowledge) × HasTaken w i known
there base w i q r next None is effect = let refused : (let answer : EventAnswer = Ok (Replied r) in answer) ≡ Err NoReplica = effect.0 in absurd cc
there base w i q r next (Some a) is effect = (a.taken, (a, is, refl))

has_taken : (base : List ℕ) (w : World) (i : ℕ) (q : Request) (r : Reply) → Gives base w i q r → (known : Knowledge) × HasTaken w i known
has_taken base w i q r gives = from gives.next gives.asked
  where
    from : (next : World) → Step base w (Ask i q) (Ok (Replied r)) next → (known : Knowledge) × HasTaken w i known
    from next (inl effect) = there base w i q r next (replica w i) refl effect
    from next (inr out) = absurd cc

-- after a course of events, two that have learnt the same give the same reply
same_reply : {base : List ℕ} (course : Course base) (i j : ℕ) (q : Request) (r s : Reply) → IsOfTaken q → LearntAlike (history_of course) i j
    → Gives base course.world i q r → Gives base course.world j q s → r ≡ s
same_reply {base} course i j q r s compared alike one two =
    let own = has_taken base course.world i q r one in
    let other = has_taken base course.world j q s two in
    let same = same_state own.0 other.0 (same_harvests course i j own.0 other.0 own.1 other.1 alike) in
    (agreement base course.world i j own.0 other.0 own.1 other.1 same).replies q r s compared one two

pub agree_after : (base : List ℕ) (count : ℕ) (events : List Event) (q : Request) (i j : ℕ) (first after : Kept) (said : Asked)
    → Stands first (start count) → first.base ≡ base → Runs first events said.answers.items after → Steps after (Ask i q) said.first after → Steps after (Ask j q) said.second after
    → AgreeAfter base count events q i j said
agree_after base count events q i j first after said stands base_is runs left right =
    let led = runs.leads (start count) stands in
    let after_is : after.base ≡ base = runs.base ∙ base_is in
    let asked_one = question base after led.end i q said.first after_is led.stands left in
    let asked_other = question base after led.end j q said.second after_is led.stands right in
    let run : Run base (start count) events said.answers.items led.end = subst (λ (b : List ℕ). Run b (start count) events said.answers.items led.end) base_is led.run in
    let course : Course base = record { count = count; events = events; answers = said.answers.items; world = led.end; run = run } in
    record {
      world = led.end;
      run = run;
      first = asked_one;
      second = asked_other;
      learnt = λ r s compared alike one_is other_is.
          same_reply course i j q r s compared alike (replied base led.end i q said.first r asked_one one_is) (replied base led.end j q said.second s asked_other other_is);
    }
