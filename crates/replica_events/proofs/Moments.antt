-- Each step keeps what holds of worlds, and so does a run: cursors are of moments that were.
use Rattle.std.proofs.Common.{◌≡◌, ℕ, zero, suc, ◌+◌, ◌<◌, ◌≤◌, true, false, cond, List, [], ◌∷◌, ◌++◌, length, take, Option, Some, None, refl, sym}
use Rattle.std.proofs.Common.{ap, subst, ◌∙◌, append_assoc, append-nil, inl, inr, arith, slice_get}
use Rattle.std.specs.Prelude.{◌==◌, ◌&&◌, nat_lt}
use Rattle.std.specs.Ordering.{nat_cmp, eq_by_cmp}
use Rattle.std.specs.Cmp.{nat_cmp_total, Equal-is}
use Rattle.std.specs.FinMap as map
use Rattle.std.proofs.lemmas.Option.{none-some, same_Some}
use Rattle.memento_index.specs.declared.merge.Merge.TheVariants as merge
use Rattle.harvest_lattice.specs.Lattice.{Entries, AtMost}
use Rattle.harvest_lattice.specs.Knowledge.{Harvested, lat, adds}
use Rattle.harvest_lattice.proofs.EntryOrder.{at_most_left, at_most_right, at_most_trans}
use Rattle.harvest_lattice.proofs.Knowledge.{lat-append}
use Rattle.harvest_lattice.proofs.KnowledgeShown.{at_most_nil}
use Rattle.replica_exchange.specs.declared.cursor.Cursor.{Cursor}
use Rattle.replica_exchange.specs.Stamps.{state_after, StampedState, IsStamped}
use Rattle.replica_exchange.specs.CursorRule.{delta_from, fits, end_of, cursor_after, taken_from}
use Rattle.replica_events.specs.declared.event.Event.{Event}
use Rattle.replica_events.specs.World.{Knowledge, World, Replica, Message, EventAnswer, Course, Step, Run, at_number, replica, message, with_replica}
use Rattle.replica_events.specs.World.{with_message, after_merge, after_join, sent_by, new_replica, new_replicas_after, start, after_restart}
use Rattle.replica_events.specs.Cursors.{GoesOn, IsReached}
use Rattle.replica_events.proofs.Numbers.{IsPlaced, replica_placed, messages_stay, Pushed, pushed}
use Rattle.replica_events.proofs.Changes as change
use Rattle.replica_events.proofs.Changes.{Change, step_changes}
use Rattle.replica_events.proofs.Sound.{join_nil, Logs, logs_with, Sound, sound_taken, sound_received, sound_joined, sound_sent, sound_restarted}

-- ---- what was met

-- a peer that was met had taken as many merges as the cursor says, and the state has at least what it had
pub record Saw (Met : ℕ → Replica → Type 0) (peer : ℕ) (c : Cursor) (x : Entries) : Type 0 where
  pub was : Replica
  pub met : Met peer was
  pub incarnation : was.incarnation ≡ c.incarnation
  pub number : length was.merges ≡ c.number
  pub reached : AtMost (state_after was.merges) x

-- a message's sender that was met had taken what the message tells
pub record Told (Met : ℕ → Replica → Type 0) (m : Message) : Type 0 where
  pub was : Replica
  pub met : Met m.sender was
  pub incarnation : was.incarnation ≡ m.delta.incarnation
  pub number : length was.merges ≡ m.delta.end
  pub taken : lat m.taken ≡ state_after was.merges

pub record Witnessed (Met : ℕ → Replica → Type 0) (w : World) : Type 0 where
  pub cursors : (i : ℕ) (r : Replica) → replica w i ≡ Some r → (peer : ℕ) (c : Cursor) → map.get r.cursors peer ≡ Some c → Saw Met peer c (lat r.taken)
  pub messages : (k : ℕ) (m : Message) → message w k ≡ Some m → Told Met m

pub record Good (Met : ℕ → Replica → Type 0) (w : World) : Type 0 where
  pub logs : Logs
  pub sound : Sound logs w
  pub witnessed : Witnessed Met w

module _ (Met : ℕ → Replica → Type 0) where
  saw_more : (peer : ℕ) (c : Cursor) (x y : Entries) → AtMost x y → Saw Met peer c x → Saw Met peer c y
  saw_more peer c x y more saw = record {
    was = saw.was;
    met = saw.met;
    incarnation = saw.incarnation;
    number = saw.number;
    reached = at_most_trans (state_after saw.was.merges) x y saw.reached more;
  }

  -- a replica is another now, and its cursors are of moments that were
  replaced : (w next : World) (i : ℕ) (old new : Replica) → Witnessed Met w → replica w i ≡ Some old → next.replicas ≡ (with_replica w i new).replicas → next.messages ≡ w.messages
      → ((peer : ℕ) (c : Cursor) → map.get new.cursors peer ≡ Some c → Saw Met peer c (lat new.taken)) → Witnessed Met next
  replaced w next i old new witnessed there replicas_are messages_are saw = record {
    cursors = λ j s is. at j s (replica_placed w i old new j s there (subst (λ (rs : List Replica). at_number rs j ≡ Some s) replicas_are is));
    messages = λ k m is. witnessed.messages k m (subst (λ (ms : List Message). at_number ms k ≡ Some m) messages_are is);
  }
    where
      at : (j : ℕ) (s : Replica) → IsPlaced w i new j s → (peer : ℕ) (c : Cursor) → map.get s.cursors peer ≡ Some c → Saw Met peer c (lat s.taken)
      at j s (inl (_, is)) = subst (λ (s : Replica). (peer : ℕ) (c : Cursor) → map.get s.cursors peer ≡ Some c → Saw Met peer c (lat s.taken)) (sym is) saw
      at j s (inr (other, is)) = witnessed.cursors j s is

  more_known : (known more : Knowledge) → AtMost (lat known) (lat (known ++ more))
  more_known known more = subst (λ (x : Entries). AtMost (lat known) x) (sym (lat-append known more)) (at_most_left (lat known) (lat more))

  module _ (w : World) (now : (i : ℕ) (r : Replica) → replica w i ≡ Some r → Met i r) (good : Good Met w) where
    still_saw : (i : ℕ) (r : Replica) → replica w i ≡ Some r → (more : Knowledge) (peer : ℕ) (c : Cursor) → map.get r.cursors peer ≡ Some c → Saw Met peer c (lat (r.taken ++ more))
    still_saw i r there more peer c is = saw_more peer c (lat r.taken) (lat (r.taken ++ more)) (more_known r.taken more) (good.witnessed.cursors i r there peer c is)

    good_taken : (i : ℕ) (r : Replica) (h : Harvested) → replica w i ≡ Some r → Good Met (with_replica w i (after_merge r (h ∷ []) (merge.Harvest h)))
    good_taken i r h there = record {
      logs = logs_with good.logs r (merge.Harvest h);
      sound = sound_taken good.logs w i r h good.sound there;
      witnessed = replaced w _ i r (after_merge r (h ∷ []) (merge.Harvest h)) good.witnessed there refl (messages_stay w i _) (still_saw i r there (h ∷ []));
    }

    good_received : (i : ℕ) (r : Replica) (s : Entries) → replica w i ≡ Some r → Good Met (with_replica w i (after_merge r (adds s) (merge.State s)))
    good_received i r s there = record {
      logs = logs_with good.logs r (merge.State s);
      sound = sound_received good.logs w i r s good.sound there;
      witnessed = replaced w _ i r (after_merge r (adds s) (merge.State s)) good.witnessed there refl (messages_stay w i _) (still_saw i r there (adds s));
    }

    good_joined : (i k : ℕ) (r : Replica) (m : Message) → replica w i ≡ Some r → message w k ≡ Some m → fits (map.get r.cursors m.sender) m.delta ≡ true → Good Met (with_replica w i (after_join r m))
    good_joined i k r m there found fit = record {
      logs = logs_with good.logs r (merge.State m.delta.state);
      sound = sound_joined good.logs w i k r m good.sound there found fit;
      witnessed = replaced w _ i r (after_join r m) good.witnessed there refl (messages_stay w i _) saw;
    }
      where
        tells : Told Met m
        tells = good.witnessed.messages k m found

        known : Entries
        known = lat (r.taken ++ m.taken)

        whole : AtMost (lat m.taken) known
        whole = subst (λ (x : Entries). AtMost (lat m.taken) x) (sym (lat-append r.taken m.taken)) (at_most_right (lat r.taken) (lat m.taken))

        at_end : Saw Met m.sender (end_of m.delta) known
        at_end = record {
          was = tells.was;
          met = tells.met;
          incarnation = tells.incarnation;
          number = tells.number;
          reached = subst (λ (x : Entries). AtMost x known) tells.taken whole;
        }

        moves : (o : Option Cursor) → map.get r.cursors m.sender ≡ o → Saw Met m.sender (cursor_after o m.delta) known
        moves None is = at_end
        moves (Some c) is =
            elim ((c.incarnation == m.delta.incarnation) && nat_lt m.delta.end c.number) as (λ b. Saw Met m.sender (cond b c (end_of m.delta)) known) [
              | true ↦ still_saw i r there m.taken m.sender c is
              | false ↦ at_end
            ]

        saw : (peer : ℕ) (c : Cursor) → map.get (taken_from r.cursors m.sender m.delta) peer ≡ Some c → Saw Met peer c known
        saw peer c is =
            elim (eq_by_cmp nat_cmp peer m.sender) as (λ b. eq_by_cmp nat_cmp peer m.sender ≡ b
            → cond b (Some (cursor_after (map.get r.cursors m.sender) m.delta)) (map.get r.cursors peer) ≡ Some c → Saw Met peer c known) [
              | true ↦ λ same here.
                  subst (λ (p : ℕ). Saw Met p c known) (sym (map.nat_cmp-IsAntisymmetric peer m.sender ((Equal-is (nat_cmp peer m.sender)).0 same)))
                  (subst (λ (c : Cursor). Saw Met m.sender c known) (same_Some (cursor_after (map.get r.cursors m.sender) m.delta) c here) (moves (map.get r.cursors m.sender) refl))
              | false ↦ λ _ elsewhere. still_saw i r there m.taken peer c elsewhere
            ] refl (sym (map.get-insert nat_cmp_total r.cursors m.sender (cursor_after (map.get r.cursors m.sender) m.delta) peer) ∙ is)

    good_sent : (i : ℕ) (r : Replica) (s : StampedState) (cursor : Option Cursor) → replica w i ≡ Some r → IsStamped r.merges s
        → s.incarnation ≡ r.incarnation → Good Met (with_message w (sent_by i r (delta_from s cursor)))
    good_sent i r s cursor there is incarnation = record {
      logs = good.logs;
      sound = sound_sent good.logs w i r s cursor good.sound there is incarnation;
      witnessed = record { cursors = good.witnessed.cursors; messages = λ k m at. tells k m (pushed w.messages (sent_by i r (delta_from s cursor)) k m at) };
    }
      where
        tells : (k : ℕ) (m : Message) → Pushed w.messages (sent_by i r (delta_from s cursor)) k m → Told Met m
        tells k m (inl (_, is_last)) = subst (Told Met) (sym is_last) (record {
          was = r;
          met = now i r there;
          incarnation = sym incarnation;
          number = sym is.number;
          taken = sym (good.sound.states i r there);
        })
        tells k m (inr (few, before)) = good.witnessed.messages k m before

    good_restarted : (i : ℕ) (r : Replica) → replica w i ≡ Some r → Good Met (after_restart w i)
    good_restarted i r there = record {
      logs = good.logs;
      sound = sound_restarted good.logs w i r good.sound there;
      witnessed = replaced w _ i r (new_replica (w.last + 1)) good.witnessed there refl (messages_stay w i _) (λ peer c is. absurd (none-some c (sym (map.get-empty nat_cmp peer) ∙ is)));
    }

    -- ---- each event

    good_change : (event : Event) (answer : EventAnswer) (new : World) → Change w event answer new → Good Met new
    good_change event answer new (change.idle answered is) = subst (Good Met) (sym is) good
    good_change event answer new (change.took i h r there event_is answer_is is) = subst (Good Met) (sym is) (good_taken i r h there)
    good_change event answer new (change.received i bytes s r there text event_is answer_is is) = subst (Good Met) (sym is) (good_received i r s there)
    good_change event answer new (change.joined i k r m there found fit event_is answer_is is) = subst (Good Met) (sym is) (good_joined i k r m there found fit)
    good_change event answer new (change.sent i r s cursor there stamped own sends answer_is is) = subst (Good Met) (sym is) (good_sent i r s cursor there stamped own)
    good_change event answer new (change.restarted i r there event_is answer_is is) = subst (Good Met) (sym is) (good_restarted i r there)

    pub good_step : (base : List ℕ) (event : Event) (answer : EventAnswer) (new : World) → Step base w event answer new → Good Met new
    good_step base event answer new step = good_change event answer new (step_changes w base event answer new step)

-- what was met before is met still
met_still : (Met More : ℕ → Replica → Type 0) (w : World) → ((p : ℕ) (s : Replica) → Met p s → More p s) → Good Met w → Good More w
met_still Met More w still good = record {
  logs = good.logs;
  sound = good.sound;
  witnessed = record {
    cursors = λ i r there peer c is. let saw = good.witnessed.cursors i r there peer c is
        in record { was = saw.was; met = still peer saw.was saw.met; incarnation = saw.incarnation; number = saw.number; reached = saw.reached };
    messages = λ k m found. let t = good.witnessed.messages k m found in record { was = t.was; met = still m.sender t.was t.met; incarnation = t.incarnation; number = t.number; taken = t.taken };
  };
}

-- ---- runs

-- at some time of the course the replica of this number was so
abbrev pub Was : {base : List ℕ} → Course base → ℕ → Replica → Type 0
Was {base} course p s = (earlier : Course base) × GoesOn earlier course × (replica earlier.world p ≡ Some s)

pub run_push : (base : List ℕ) (w : World) (events : List Event) (answers : List EventAnswer) (mid : World) (event : Event) (answer : EventAnswer) (end : World)
    → Run base w events answers mid → Step base mid event answer end → Run base w (events ++ event ∷ []) (answers ++ answer ∷ []) end
run_push base w [] [] mid event answer end run step = (end, subst (λ (w : World). Step base w event answer end) run step, refl)
run_push base w [] (a ∷ answers) mid event answer end run step = absurd run
run_push base w (e ∷ events) [] mid event answer end run step = absurd run
run_push base w (e ∷ events) (a ∷ answers) mid event answer end run step = (run.0, run.1, run_push base run.0 events answers mid event answer end run.2 step)

-- the course with one event more
abbrev pub longer : {base : List ℕ} (course : Course base) (event : Event) (answer : EventAnswer) (new : World) → Step base course.world event answer new → Course base
longer {base} course event answer new step = record {
  count = course.count;
  events = course.events ++ event ∷ [];
  answers = course.answers ++ answer ∷ [];
  world = new;
  run = run_push base (start course.count) course.events course.answers course.world event answer new course.run step;
}

goes_longer : {base : List ℕ} (earlier course : Course base) (event : Event) (answer : EventAnswer) (new : World) (step : Step base course.world event answer new) → GoesOn earlier course
    → GoesOn earlier (longer course event answer new step)
goes_longer {base} earlier course event answer new step on = record {
  events = on.events ++ event ∷ [];
  answers = on.answers ++ answer ∷ [];
  count = on.count;
  events_are = ap (λ (l : List Event). l ++ event ∷ []) on.events_are ∙ append_assoc earlier.events on.events (event ∷ []);
  answers_are = ap (λ (l : List EventAnswer). l ++ answer ∷ []) on.answers_are ∙ append_assoc earlier.answers on.answers (answer ∷ []);
  run = run_push base earlier.world on.events on.answers course.world event answer new on.run step;
}

goes_nowhere : {base : List ℕ} (course : Course base) → GoesOn course course
goes_nowhere course = record {
  events = [];
  answers = [];
  count = refl;
  events_are = sym (append-nil course.events);
  answers_are = sym (append-nil course.answers);
  run = refl;
}

-- the course is this one, of which the world holds
abbrev GoodAlong : {base : List ℕ} → Course base → Type 0
GoodAlong course = Good (Was course) course.world

longer_good : {base : List ℕ} (course : Course base) (event : Event) (answer : EventAnswer) (new : World) (step : Step base course.world event answer new) → GoodAlong course
    → GoodAlong (longer course event answer new step)
longer_good {base} course event answer new step good =
    let now : (i : ℕ) (r : Replica) → replica course.world i ≡ Some r → Was course i r = λ i r there. (course, goes_nowhere course, there) in
    met_still (Was course) (Was (longer course event answer new step)) new
    (λ p s was. (was.0, goes_longer was.0 course event answer new step was.1, was.2))
    (good_step (Was course) course.world now good base event answer new step)

-- ---- at first

first_replica : (last count place : ℕ) (r : Replica) → slice_get (new_replicas_after last count) place ≡ Some r → (r ≡ new_replica (last + place + 1)) × (place < count)
first_replica last zero place r is = cc
first_replica last (suc count) zero r is = let same : last + 1 ≡ last + 0 + 1 = omega arith in (let here : new_replica (last + 1) ≡ r = cc in sym here ∙ ap new_replica same, omega arith)
first_replica last (suc count) (suc place) r is =
    let rest = first_replica (last + 1) count place r is in
    let same : last + 1 + place + 1 ≡ last + suc place + 1 = omega arith in
    let below = rest.1 in
    (rest.0 ∙ ap new_replica same, omega (arith, below))

pub at_first : (count i : ℕ) (r : Replica) → replica (start count) i ≡ Some r → (r ≡ new_replica i) × (i ≤ count)
at_first count zero r is = cc
at_first count (suc place) r is =
    let at = first_replica 0 count place r is in
    let same : 0 + place + 1 ≡ suc place = omega arith in
    let below = at.1 in
    (at.0 ∙ ap new_replica same, omega (arith, below))

pub no_message_at_first : (count k : ℕ) (m : Message) → ¬ (message (start count) k ≡ Some m)
no_message_at_first count zero m is = cc
no_message_at_first count (suc place) m is = cc

pub start_good : (Met : ℕ → Replica → Type 0) (count : ℕ) → Good Met (start count)
start_good Met count = record {
  logs = λ number. [];
  sound = record {
    own = λ i r there. sym (ap (λ (r : Replica). r.merges) (at_first count i r there).0);
    states = λ i r there. subst (λ (r : Replica). state_after r.merges ≡ lat r.taken) (sym (at_first count i r there).0) refl;
    born = λ i r there. let at = at_first count i r there in let n : r.incarnation ≡ i = ap (λ (r : Replica). r.incarnation) at.0 in let below = at.1 in omega (arith, n, below);
    unborn = λ number late. refl;
    apart = λ i j r s ri sj same. sym (ap (λ (r : Replica). r.incarnation) (at_first count i r ri).0) ∙ (same ∙ ap (λ (r : Replica). r.incarnation) (at_first count j s sj).0);
    cursors = λ i r there peer c held. absurd (none-some c (sym (ap (λ (r : Replica). map.get r.cursors peer) (at_first count i r there).0 ∙ map.get-empty nat_cmp peer) ∙ held));
    messages = λ k m found. absurd (no_message_at_first count k m found);
  };
  witnessed = record {
    cursors = λ i r there peer c held. absurd (none-some c (sym (ap (λ (r : Replica). map.get r.cursors peer) (at_first count i r there).0 ∙ map.get-empty nat_cmp peer) ∙ held));
    messages = λ k m found. absurd (no_message_at_first count k m found);
  };
}

same_goes : {base : List ℕ} (earlier course whole : Course base) → whole.count ≡ course.count → whole.events ≡ course.events → whole.answers ≡ course.answers → course.world ≡ whole.world
    → GoesOn earlier course → GoesOn earlier whole
same_goes {base} earlier course whole count events answers world on = record {
  events = on.events;
  answers = on.answers;
  count = count ∙ on.count;
  events_are = events ∙ on.events_are;
  answers_are = answers ∙ on.answers_are;
  run = subst (λ (w : World). Run base earlier.world on.events on.answers w) world on.run;
}

-- what goes on from a course of which this holds
rest_good : {base : List ℕ} (course : Course base) → GoodAlong course → (events : List Event) (answers : List EventAnswer) (end : World) → Run base course.world events answers end
    → (whole : Course base) → whole.count ≡ course.count → whole.events ≡ course.events ++ events → whole.answers ≡ course.answers ++ answers → end ≡ whole.world → Good (Was whole) end
rest_good course good [] [] end run whole count events_are answers_are world =
    let still : (p : ℕ) (s : Replica) → Was course p s → Was whole p s = λ p s was. (
      was.0,
      same_goes was.0 course whole count (events_are ∙ append-nil course.events) (answers_are ∙ append-nil course.answers) (sym run ∙ world) was.1,
      was.2,
    ) in
    subst (λ (w : World). Good (Was whole) w) (sym run) (met_still (Was course) (Was whole) course.world still good)
rest_good course good [] (answer ∷ answers) end run whole count events_are answers_are world = absurd run
rest_good course good (event ∷ events) [] end run whole count events_are answers_are world = absurd run
rest_good {base} course good (event ∷ events) (answer ∷ answers) end run whole count events_are answers_are world =
    rest_good (longer course event answer run.0 run.1) (longer_good course event answer run.0 run.1 good) events answers end run.2 whole count
    (events_are ∙ sym (append_assoc course.events (event ∷ []) events))
    (answers_are ∙ sym (append_assoc course.answers (answer ∷ []) answers)) world

-- the course in which nothing has happened yet
abbrev at_start : {base : List ℕ} → Course base → Course base
at_start course = record { count = course.count; events = []; answers = []; world = start course.count; run = refl }

pub course_good : {base : List ℕ} (course : Course base) → Good (Was course) course.world
course_good course =
    rest_good (at_start course) (start_good (Was (at_start course)) course.count) course.events course.answers course.world course.run course refl refl refl refl

pub cursor_reached : {base : List ℕ} (course : Course base) (i : ℕ) (r : Replica) → replica course.world i ≡ Some r → (peer : ℕ) (c : Cursor) → map.get r.cursors peer ≡ Some c
    → IsReached course peer c (lat r.taken)
cursor_reached course i r there peer c held =
    let saw = (course_good course).witnessed.cursors i r there peer c held in
    record { earlier = saw.met.0; goes_on = saw.met.1; was = saw.was; there = saw.met.2; incarnation = saw.incarnation; number = saw.number; reached = saw.reached }

pub merges_made : {base : List ℕ} (course : Course base) (i : ℕ) (r : Replica) → replica course.world i ≡ Some r → state_after r.merges ≡ lat r.taken
merges_made course i r there = (course_good course).sound.states i r there

-- a delta from the beginning has all that its sender had taken
pub whole_delta : {base : List ℕ} (course : Course base) (k : ℕ) (m : Message) → message course.world k ≡ Some m → m.delta.start ≡ 0 → m.delta.state ≡ lat m.taken
whole_delta course k m found first =
    let good = course_good course in
    let tells = good.sound.messages k m found in
    let below : AtMost (state_after (take m.delta.start (good.logs m.delta.incarnation))) (lat []) =
    subst (λ (n : ℕ). AtMost (state_after (take n (good.logs m.delta.incarnation))) (lat [])) (sym first) (at_most_nil (lat [])) in
    sym (join_nil m.delta.state) ∙ (tells.suffices (lat []) below ∙ join_nil (lat m.taken))
