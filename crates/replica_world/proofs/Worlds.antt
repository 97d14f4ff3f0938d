-- The steps of the worlds that what is kept stands for.
use Rattle.std.proofs.Common.{◌≡◌, ℕ, zero, suc, ◌+◌, ◌<◌, ◌≤◌, true, false, List, [], ◌∷◌, ◌++◌, length, get_or, map, Option, Some, None, Ok, Err, refl, sym, ap, subst, ◌∙◌, arith, inl, inr}
use Rattle.std.specs.Prelude.{slice_set, slice_get, ◌⊎◌, All}
use Rattle.std.specs.List.{AllZip}
use Rattle.std.specs.FinMap as fmap
use Rattle.memento_index.specs.declared.merge.Merge.{Merge}
use Rattle.memento_index.specs.declared.merge.Merge.TheVariants as merge
use Rattle.harvest_lattice.specs.Lattice.{Entries}
use Rattle.harvest_lattice.specs.Knowledge.{Harvested, adds}
use Rattle.replica_exchange.specs.declared.fault.StateFault.{StateFault}
use Rattle.replica_exchange.specs.declared.fault.StateFault.TheVariants.{TooLong, NotState}
use Rattle.replica_exchange.specs.declared.fault.StateFault.TheVariants as fault
use Rattle.replica_exchange.specs.declared.stamped.StampFault.{StampFault}
use Rattle.replica_exchange.specs.declared.stamped.StampFault.TheVariants as stamp_fault
use Rattle.replica_exchange.specs.declared.cursor.Cursor.{Cursor}
use Rattle.replica_exchange.specs.declared.delta.Delta.{Delta}
use Rattle.replica_exchange.specs.Faults.{IsCause, IsDeltaCause, longest_text}
use Rattle.replica_exchange.specs.Stamps.{IsStamped}
use Rattle.replica_exchange.specs.DeltaText.{delta_text, IsDelta, IsDeltaText}
use Rattle.replica_exchange.specs.CursorRule.{Held, fits, taken_from}
use Rattle.replica_exchange.proofs.StampLemmas.{absorbed_is_stamped}
use Rattle.replica_exchange.proofs.DeltaLemmas.{one_delta_text}
use Rattle.timegate.specs.declared.request.Request.{Request}
use Rattle.replica_events.specs.declared.event.Event.{Event}
use Rattle.replica_events.specs.declared.event.Event.TheVariants.{Take, Send, SendFrom, Deliver, Receive, Restart, Ask}
use Rattle.replica_events.specs.declared.event.Said.TheVariants.{Taken, Joined}
use Rattle.replica_events.specs.declared.event.Refused.{Refused}
use Rattle.replica_events.specs.declared.event.Refused.TheVariants.{NoReplica, NoMessage, BadState, NoMemory, Gap, NumbersSpent}
use Rattle.replica_events.specs.Faults.{refusal, stamp_refusal}
use Rattle.replica_events.specs.World.{World, Replica, Message, EventAnswer, Step, Effect, at_number, HasReplica, TakesMemory, IsText, last_number, replica}
use Rattle.replica_events.specs.World.{message, with_replica, after_merge, after_join}
use Rattle.replica_events.proofs.Numbers.{messages_stay, last_stays}
use Rattle.replica_events.proofs.Moments.{longer}
use Rattle.replica_world.specs.Places.{IsPlaceOf, IsNoNumber}
use Rattle.replica_world.specs.declared.message.SentMessage.{SentMessage}
use Rattle.replica_world.specs.declared.replica.KeptReplica.{KeptReplica}
use Rattle.replica_world.specs.Keeping.{IsJoinCause}
use Rattle.replica_world.specs.Stands.{Kept, Keeps, IsSent, IsReached, Stands, Steps, MergedAt, kept_at, kept_message, nothing_kept}
use Rattle.replica_world.proofs.Places.{kept_of, none_kept, all_numbered}

-- ---- two lists, pair by pair

zip_at : {A B : Type 0} (R : A → B → Type 0) (xs : List A) (ys : List B) (place : ℕ) (d : A) → AllZip R xs ys → place < length xs → (y : B) × (slice_get ys place ≡ Some y) × R (get_or xs place d) y
zip_at R [] ys place d all below = absurd (omega (arith, below))
zip_at R (x ∷ xs) [] place d all below = absurd all
zip_at R (x ∷ xs) (y ∷ ys) zero d all below = (y, refl, all.0)
zip_at R (x ∷ xs) (y ∷ ys) (suc place) d all below = zip_at R xs ys place d all.1 (omega (arith, below))

zip_set : {A B : Type 0} (R : A → B → Type 0) (xs : List A) (ys : List B) (place : ℕ) (x : A) (y : B) → AllZip R xs ys → R x y → AllZip R (slice_set xs place x) (slice_set ys place y)
zip_set R [] [] place x y all is = all
zip_set R [] (b ∷ ys) place x y all is = absurd all
zip_set R (a ∷ xs) [] place x y all is = absurd all
zip_set R (a ∷ xs) (b ∷ ys) zero x y all is = (is, all.1)
zip_set R (a ∷ xs) (b ∷ ys) (suc place) x y all is = (all.0, zip_set R xs ys place x y all.1 is)

pub zip_push : {A B : Type 0} (R : A → B → Type 0) (xs : List A) (ys : List B) (x : A) (y : B) → AllZip R xs ys → R x y → AllZip R (xs ++ x ∷ []) (ys ++ y ∷ [])
zip_push R [] [] x y all is = (is, all)
zip_push R [] (b ∷ ys) x y all is = absurd all
zip_push R (a ∷ xs) [] x y all is = absurd all
zip_push R (a ∷ xs) (b ∷ ys) x y all is = (all.0, zip_push R xs ys x y all.1 is)

zip_none : {A B : Type 0} (R : A → B → Type 0) (xs : List A) (ys : List B) (place : ℕ) → AllZip R xs ys → length xs ≤ place → slice_get ys place ≡ None
zip_none R [] [] place all past = refl
zip_none R [] (y ∷ ys) place all past = absurd all
zip_none R (x ∷ xs) [] place all past = refl
zip_none R (x ∷ xs) (y ∷ ys) zero all past = absurd (omega (arith, past))
zip_none R (x ∷ xs) (y ∷ ys) (suc place) all past = zip_none R xs ys place all.1 (omega (arith, past))

-- ---- refusals

-- the number of an event's replica
abbrev number_of : Event → ℕ
number_of (Take i h) = i
number_of (Send i) = i
number_of (SendFrom i n) = i
number_of (Deliver i k) = i
number_of (Receive i bytes) = i
number_of (Restart i) = i
number_of (Ask i q) = i

refused_without : (base : List ℕ) (w : World) (event : Event) → replica w (number_of event) ≡ None → Effect base w event (Err NoReplica) w
refused_without base w (Take i h) is = rw is (refl, refl)
refused_without base w (Send i) is = rw is (refl, refl)
refused_without base w (SendFrom i n) is = rw is (refl, refl)
refused_without base w (Deliver i k) is = rw is (refl, refl)
refused_without base w (Receive i bytes) is = rw is (refl, refl)
refused_without base w (Restart i) is = rw is (refl, refl)
refused_without base w (Ask i q) is = rw is (refl, refl)

-- what is kept stays, and so does each world that it stands for
pub stays : (kept : Kept) (event : Event) (answer : EventAnswer) → ((w : World) → Stands kept w → Step kept.base w event answer w) → Steps kept event answer kept
stays kept event answer step = record { base = refl; leads = λ w stands. record { next = w; step = step w stands; stands = stands } }

absent : (kept : Kept) (w : World) (number : ℕ) → Stands kept w → IsNoNumber number (length kept.replicas) → replica w number ≡ None
absent kept w zero stands none = refl
absent kept w (suc place) stands none = zip_none Keeps kept.replicas w.replicas place stands.replicas none

-- a refusal after which all is as it was
pub refused_as : (old new : Kept) (event : Event) (why : Refused) (answer : EventAnswer) → Steps old event (Err why) old → new ≡ old → answer ≡ Err why → Steps old event answer new
refused_as old new event why answer steps new_is answer_is = subst (λ (k : Kept). Steps old event answer k) (sym new_is) (subst (λ (a : EventAnswer). Steps old event a old) (sym answer_is) steps)

pub no_replica : (kept new : Kept) (event : Event) (why : Refused) (answer : EventAnswer) → (why ≡ NoReplica)
    × IsNoNumber (number_of event) (length kept.replicas) → new ≡ kept → answer ≡ Err why → Steps kept event answer new
no_replica kept new event why answer is new_is answer_is =
    refused_as kept new event NoReplica answer
    (stays kept event (Err NoReplica) (λ w stands. inl (refused_without kept.base w event (absent kept w (number_of event) stands is.1))))
    new_is (answer_is ∙ ap (λ (why : Refused). Err why) is.0)

-- the replica of a number, of which this is kept at its place
pub record Found (kept : Kept) (w : World) (number place : ℕ) : Type 0 where
  pub found : Replica
  pub there : replica w number ≡ Some found
  pub keeps : Keeps (kept_at kept place) found

pub replica_at : (kept : Kept) (w : World) (number place : ℕ) → Stands kept w → IsPlaceOf number (length kept.replicas) place → Found kept w number place
replica_at kept w number place stands here =
    let x = zip_at Keeps kept.replicas w.replicas place nothing_kept stands.replicas here.within in
    let same : suc place ≡ number = omega (arith, here.number_is) in
    record { found = x.0; there = subst (λ (n : ℕ). replica w n ≡ Some x.0) same x.1; keeps = x.2 }

ran_out : (kept : Kept) (number place : ℕ) (event : Event) → IsPlaceOf number (length kept.replicas) place → ((w : World) → Stands kept w → HasReplica w number → TakesMemory w event)
    → Steps kept event (Err NoMemory) kept
ran_out kept number place event here takes =
    stays kept event (Err NoMemory)
    (λ w stands. let x = replica_at kept w number place stands here in inr (refl, refl, takes w stands (x.found, x.there)))

pub take_ran_out : (kept : Kept) (number place : ℕ) (h : Harvested) → IsPlaceOf number (length kept.replicas) place → Steps kept (Take number h) (Err NoMemory) kept
take_ran_out kept number place h here = ran_out kept number place (Take number h) here (λ w stands there. there)

pub send_ran_out : (kept : Kept) (number place : ℕ) → IsPlaceOf number (length kept.replicas) place → Steps kept (Send number) (Err NoMemory) kept
send_ran_out kept number place here = ran_out kept number place (Send number) here (λ w stands there. there)

pub send_from_ran_out : (kept : Kept) (number place n : ℕ) → IsPlaceOf number (length kept.replicas) place → Steps kept (SendFrom number n) (Err NoMemory) kept
send_from_ran_out kept number place n here = ran_out kept number place (SendFrom number n) here (λ w stands there. there)

pub ask_ran_out : (kept : Kept) (number place : ℕ) (q : Request) → IsPlaceOf number (length kept.replicas) place → Steps kept (Ask number q) (Err NoMemory) kept
ask_ran_out kept number place q here = ran_out kept number place (Ask number q) here (λ w stands there. there)

pub receive_ran_out : (kept : Kept) (number place : ℕ) (bytes : List ℕ) → IsPlaceOf number (length kept.replicas) place → length bytes ≤ longest_text
    → Steps kept (Receive number bytes) (Err NoMemory) kept
receive_ran_out kept number place bytes here within = ran_out kept number place (Receive number bytes) here (λ w stands there. (there, within))

-- ---- one replica merges

pub placed : (kept : Kept) (w : World) (number place : ℕ) (k : KeptReplica) (r : Replica) → Stands kept w → number ≡ place + 1 → Keeps k r
    → AllZip Keeps (slice_set kept.replicas place k) (with_replica w number r).replicas
placed kept w number place k r stands is keeps =
    let same : suc place ≡ number = omega (arith, is) in
    subst (λ (n : ℕ). AllZip Keeps (slice_set kept.replicas place k) (with_replica w n r).replicas) same (zip_set Keeps kept.replicas w.replicas place k r stands.replicas keeps)

pub reached_next : (base : List ℕ) (w : World) (event : Event) (answer : EventAnswer) (next : World) → IsReached base w → Step base w event answer next → IsReached base next
reached_next base w event answer next reached step =
    let here : Step base reached.course.world event answer next = subst (λ (w : World). Step base w event answer next) (sym reached.world) step in
    record { course = longer reached.course event answer next here; world = refl }

-- the replica once it has taken the merge, in a world where the event leads to it
abbrev Takes : Kept → ℕ → Event → EventAnswer → Merge → Held → World → Replica → Type 0
Takes old number event answer m held w r =
    (next : Replica) × (next.merges ≡ r.merges ++ m ∷ []) × (next.incarnation ≡ r.incarnation) × (held ≡ next.cursors) × Step old.base w event answer (with_replica w number next)

-- and it is stood for
merged_step : (old new : Kept) (number place : ℕ) (event : Event) (answer : EventAnswer) (m : Merge) (held : Held) → IsPlaceOf number (length old.replicas) place
    → MergedAt old place m held new
    → ((w : World) (r : Replica) → Stands old w → replica w number ≡ Some r → Keeps (kept_at old place) r → ¬ (length r.merges ≡ last_number) → Takes old number event answer m held w r)
    → Steps old event answer new
merged_step old new number place event answer m held here a takes = record {
  base = a.base;
  leads = λ w stands.
      let x = replica_at old w number place stands here in
      let r : Replica = x.found in
      let p = takes w r stands x.there x.keeps (λ last. a.merged.left (x.keeps.stamped.number ∙ last)) in
      let next : Replica = p.0 in
      let keeps : Keeps (kept_at new place) next = record {
        stamped = subst (λ (ms : List Merge). IsStamped ms (kept_at new place).stamped) (sym p.1)
            (absorbed_is_stamped r.merges m (kept_at old place).stamped (kept_at new place).stamped x.keeps.stamped a.merged.absorbed);
        incarnation = a.merged.absorbed.incarnation ∙ (x.keeps.incarnation ∙ sym p.2);
        cursors = a.merged.cursors ∙ p.3;
      } in
      record {
        next = with_replica w number next;
        step = p.4;
        stands = record {
          reached = subst (λ (b : List ℕ). IsReached b (with_replica w number next)) (sym a.base) (reached_next old.base w event answer (with_replica w number next) stands.reached p.4);
          replicas = subst (λ (ks : List KeptReplica). AllZip Keeps ks (with_replica w number next).replicas) (sym a.replicas)
              (placed old w number place (kept_at new place) next stands here.number_is keeps);
          messages = a.messages ∙ (stands.messages ∙ ap (map kept_message) (sym (messages_stay w number next)));
          last = a.last ∙ (stands.last ∙ sym (last_stays w number next));
          sent = subst (All IsSent) (sym (messages_stay w number next)) stands.sent;
        };
      };
}

pub took : (old new : Kept) (number place : ℕ) (h copy : Harvested) → copy ≡ h → IsPlaceOf number (length old.replicas) place
    → MergedAt old place (merge.Harvest copy) (kept_at old place).cursors new → Steps old (Take number h) (Ok Taken) new
took old new number place h copy copy_is here a =
    merged_step old new number place (Take number h) (Ok Taken) (merge.Harvest copy) (kept_at old place).cursors here a
    (λ w r stands there keeps few.
    (after_merge r (h ∷ []) (merge.Harvest h), ap (λ (g : Harvested). r.merges ++ merge.Harvest g ∷ []) (sym copy_is), refl, keeps.cursors, inl (rw there (inl (few, (refl, refl))))))

pub received : (old new : Kept) (number place : ℕ) (bytes : List ℕ) (s : Entries) → IsPlaceOf number (length old.replicas) place → IsText bytes s
    → MergedAt old place (merge.State s) (kept_at old place).cursors new → Steps old (Receive number bytes) (Ok Joined) new
received old new number place bytes s here text a =
    merged_step old new number place (Receive number bytes) (Ok Joined) (merge.State s) (kept_at old place).cursors here a
    (λ w r stands there keeps few. (after_merge r (adds s) (merge.State s), refl, refl, keeps.cursors, inl (rw there (inl (s, text, inl (few, (refl, refl)))))))

-- where the replica's number is the last one, nothing is merged
spent_take : (kept : Kept) (number place : ℕ) (h : Harvested) → IsPlaceOf number (length kept.replicas) place → (kept_at kept place).stamped.number ≡ last_number
    → Steps kept (Take number h) (Err NumbersSpent) kept
spent_take kept number place h here spent =
    stays kept (Take number h) (Err NumbersSpent)
    (λ w stands.
    let x = replica_at kept w number place stands here in
    inl (rw x.there (inr (sym x.keeps.stamped.number ∙ spent, (refl, refl)))))

spent_receive : (kept : Kept) (number place : ℕ) (bytes : List ℕ) (s : Entries) → IsPlaceOf number (length kept.replicas) place → IsText bytes s
    → (kept_at kept place).stamped.number ≡ last_number → Steps kept (Receive number bytes) (Err NumbersSpent) kept
spent_receive kept number place bytes s here text spent =
    stays kept (Receive number bytes) (Err NumbersSpent)
    (λ w stands.
    let x = replica_at kept w number place stands here in
    inl (rw x.there (inl (s, text, inr (sym x.keeps.stamped.number ∙ spent, (refl, refl))))))

-- a merge that isn't absorbed: numbers are spent, or memory was refused
pub not_taken : (kept : Kept) (number place : ℕ) (h : Harvested) (why : StampFault) → IsPlaceOf number (length kept.replicas) place
    → (why ≡ stamp_fault.NumbersSpent → (kept_at kept place).stamped.number ≡ last_number) → Steps kept (Take number h) (Err (stamp_refusal why)) kept
not_taken kept number place h stamp_fault.NumbersSpent here spent = spent_take kept number place h here (spent refl)
not_taken kept number place h stamp_fault.NoMemory here spent = take_ran_out kept number place h here

pub not_absorbed : (kept : Kept) (number place : ℕ) (bytes : List ℕ) (s : Entries) (why : StampFault) → IsPlaceOf number (length kept.replicas) place → IsText bytes s
    → (why ≡ stamp_fault.NumbersSpent → (kept_at kept place).stamped.number ≡ last_number) → Steps kept (Receive number bytes) (Err (stamp_refusal why)) kept
not_absorbed kept number place bytes s stamp_fault.NumbersSpent here text spent = spent_receive kept number place bytes s here text (spent refl)
not_absorbed kept number place bytes s stamp_fault.NoMemory here text spent = receive_ran_out kept number place bytes here text.within

-- bytes that are refused are no state's text within the limit
no_text : (bytes : List ℕ) (s : Entries) → IsCause TooLong bytes ⊎ IsCause NotState bytes → IsText bytes s → ⊥
no_text bytes s (inl long) text = let within = text.within in absurd (omega (arith, long, within))
no_text bytes s (inr not) text = not.1 s text.text

pub not_received : (kept : Kept) (number place : ℕ) (bytes : List ℕ) (fault : StateFault) (answer : EventAnswer) → IsPlaceOf number (length kept.replicas) place
    → IsCause fault bytes → answer ≡ Err (refusal fault) → Steps kept (Receive number bytes) answer kept
not_received kept number place bytes fault.NoMemory answer here cause is =
    subst (λ (a : EventAnswer). Steps kept (Receive number bytes) a kept) (sym is) (receive_ran_out kept number place bytes here cause)
not_received kept number place bytes TooLong answer here cause is =
    stays kept (Receive number bytes) answer (λ w stands. inl (rw (replica_at kept w number place stands here).there (inr (λ s text. no_text bytes s (inl cause) text, (is, refl)))))
not_received kept number place bytes NotState answer here cause is =
    stays kept (Receive number bytes) answer (λ w stands. inl (rw (replica_at kept w number place stands here).there (inr (λ s text. no_text bytes s (inr cause) text, (is, refl)))))

-- ---- messages

-- the message of a number, of which this is kept
record FoundMessage (kept : Kept) (w : World) (number : ℕ) (k : SentMessage) : Type 0 where
  pub found : Message
  pub there : message w number ≡ Some found
  pub kept_is : k ≡ kept_message found
  pub sent : IsSent found

message_at : (kept : Kept) (w : World) (k : ℕ) (m : SentMessage) → Stands kept w → at_number kept.messages k ≡ Some m → FoundMessage kept w k m
message_at kept w k m stands sent =
    let x = kept_of kept_message w.messages kept.messages k m stands.messages sent in
    record { found = x.found; there = x.there; kept_is = x.kept_is; sent = all_numbered IsSent w.messages k x.found x.there stands.sent }

-- the delta that was read
pub record IsReadFrom (m : SentMessage) (read : Delta) : Type 0 where
  pub text : IsDeltaText m.bytes read
  pub within : length m.bytes ≤ longest_text

-- is the one that was sent, by the replica whose number is kept
record IsSame (m : SentMessage) (read : Delta) (found : Message) : Type 0 where
  pub delta : read ≡ found.delta
  pub sender : m.sender ≡ found.sender
  pub within : length found.bytes ≤ longest_text

-- bytes that are the text of the delta that was sent
sent_text : (bytes : List ℕ) (d : Delta) → IsDelta d → bytes ≡ delta_text d → IsDeltaText bytes d
sent_text bytes d delta text = record { delta = delta; text = inl text }

same_message : (kept : Kept) (w : World) (k : ℕ) (m : SentMessage) (read : Delta) (f : FoundMessage kept w k m) → IsReadFrom m read → IsSame m read f.found
same_message kept w k m read f is = record {
  delta = one_delta_text m.bytes read f.found.delta is.text (sent_text m.bytes f.found.delta f.sent.delta (ap (λ (k : SentMessage). k.bytes) f.kept_is ∙ f.sent.text));
  sender = ap (λ (k : SentMessage). k.sender) f.kept_is;
  within = subst (λ (k : SentMessage). length k.bytes ≤ longest_text) f.kept_is is.within;
}

pub delivered : (old new : Kept) (number place k : ℕ) (m : SentMessage) (read : Delta) → IsPlaceOf number (length old.replicas) place → at_number old.messages k ≡ Some m → IsReadFrom m read
    → fits (fmap.get (kept_at old place).cursors m.sender) read ≡ true
    → MergedAt old place (merge.State read.state) (taken_from (kept_at old place).cursors m.sender read) new → Steps old (Deliver number k) (Ok Joined) new
delivered old new number place k m read here sent is fit a =
    merged_step old new number place (Deliver number k) (Ok Joined) (merge.State read.state) (taken_from (kept_at old place).cursors m.sender read) here a
    (λ w r stands there keeps few.
    let f = message_at old w k m stands sent in
    let same = same_message old w k m read f is in
    let follows : fits (fmap.get r.cursors f.found.sender) f.found.delta ≡ true =
    (λ i. fits (fmap.get (sym keeps.cursors i) (sym same.sender i)) (sym same.delta i)) ∙ fit in (
      after_join r f.found,
      (λ i. r.merges ++ merge.State (sym same.delta i).state ∷ []),
      refl,
      (λ i. taken_from (keeps.cursors i) (same.sender i) (same.delta i)),
      inl (rw there (rw f.there (inl (same.within, inl (follows, inl (few, (refl, refl))))))),
    ))

-- a delta that leaves a gap is refused with the cursor that is held
gap_left : (kept : Kept) (number place k : ℕ) (m : SentMessage) (read : Delta) (held : Option Cursor) → IsPlaceOf number (length kept.replicas) place
    → at_number kept.messages k ≡ Some m → IsReadFrom m read
    → held ≡ fmap.get (kept_at kept place).cursors m.sender → fits (fmap.get (kept_at kept place).cursors m.sender) read ≡ false
    → Steps kept (Deliver number k) (Err (Gap held)) kept
gap_left kept number place k m read held here sent is held_is gap =
    stays kept (Deliver number k) (Err (Gap held))
    (λ w stands.
    let x = replica_at kept w number place stands here in
    let f = message_at kept w k m stands sent in
    let same = same_message kept w k m read f is in
    let leaves : fits (fmap.get x.found.cursors f.found.sender) f.found.delta ≡ false =
    (λ i. fits (fmap.get (sym x.keeps.cursors i) (sym same.sender i)) (sym same.delta i)) ∙ gap in
    let now : held ≡ fmap.get x.found.cursors f.found.sender = held_is ∙ (λ i. fmap.get (x.keeps.cursors i) (same.sender i)) in
    inl (rw x.there (rw f.there (inl (same.within, inr (leaves, (ap (λ (o : Option Cursor). Err (Gap o)) now, refl)))))))

spent_delivery : (kept : Kept) (number place k : ℕ) (m : SentMessage) (read : Delta) → IsPlaceOf number (length kept.replicas) place → at_number kept.messages k ≡ Some m → IsReadFrom m read
    → fits (fmap.get (kept_at kept place).cursors m.sender) read ≡ true → (kept_at kept place).stamped.number ≡ last_number
    → Steps kept (Deliver number k) (Err NumbersSpent) kept
spent_delivery kept number place k m read here sent is fit spent =
    stays kept (Deliver number k) (Err NumbersSpent)
    (λ w stands.
    let x = replica_at kept w number place stands here in
    let f = message_at kept w k m stands sent in
    let same = same_message kept w k m read f is in
    let follows : fits (fmap.get x.found.cursors f.found.sender) f.found.delta ≡ true =
    (λ i. fits (fmap.get (sym x.keeps.cursors i) (sym same.sender i)) (sym same.delta i)) ∙ fit in
    inl (rw x.there (rw f.there (inl (same.within, inl (follows, inr (sym x.keeps.stamped.number ∙ spent, (refl, refl))))))))

deliver_ran_out : (kept : Kept) (number place k : ℕ) (m : SentMessage) → IsPlaceOf number (length kept.replicas) place
    → at_number kept.messages k ≡ Some m → length m.bytes ≤ longest_text → Steps kept (Deliver number k) (Err NoMemory) kept
deliver_ran_out kept number place k m here sent within =
    ran_out kept number place (Deliver number k) here
    (λ w stands there.
    let f = message_at kept w k m stands sent in
    (there, (f.found, f.there, subst (λ (k : SentMessage). length k.bytes ≤ longest_text) f.kept_is within)))

-- a delta that was read isn't joined
pub not_joined : (kept : Kept) (number place k : ℕ) (m : SentMessage) (read : Delta) (why : Refused) → IsPlaceOf number (length kept.replicas) place
    → at_number kept.messages k ≡ Some m → IsReadFrom m read
    → IsJoinCause why (kept_at kept place) m.sender read → Steps kept (Deliver number k) (Err why) kept
not_joined kept number place k m read (Gap held) here sent is cause = gap_left kept number place k m read held here sent is cause.0 cause.1
not_joined kept number place k m read NumbersSpent here sent is cause = spent_delivery kept number place k m read here sent is cause.0 cause.1
not_joined kept number place k m read NoMemory here sent is cause = deliver_ran_out kept number place k m here sent is.within
not_joined kept number place k m read NoReplica here sent is cause = absurd cause
not_joined kept number place k m read NoMessage here sent is cause = absurd cause
not_joined kept number place k m read BadState here sent is cause = absurd cause

pub no_message : (kept new : Kept) (number place k : ℕ) (why : Refused) (answer : EventAnswer) → IsPlaceOf number (length kept.replicas) place
    → (why ≡ NoMessage) × (at_number kept.messages k ≡ None) → new ≡ kept → answer ≡ Err why
    → Steps kept (Deliver number k) answer new
no_message kept new number place k why answer here is new_is answer_is =
    refused_as kept new (Deliver number k) NoMessage answer
    (stays kept (Deliver number k) (Err NoMessage)
    (λ w stands.
    let x = replica_at kept w number place stands here in
    let missing : message w k ≡ None = none_kept kept_message w.messages kept.messages k stands.messages is.1 in
    inl (rw x.there (rw missing (refl, refl)))))
    new_is (answer_is ∙ ap (λ (why : Refused). Err why) is.0)

-- a message's bytes are a delta's text, so only their number can refuse them
too_long : (bytes : List ℕ) (d : Delta) → IsDelta d → bytes ≡ delta_text d → IsDeltaCause TooLong bytes ⊎ IsDeltaCause NotState bytes → longest_text < length bytes
too_long bytes d delta text (inl long) = long
too_long bytes d delta text (inr not) = absurd (not.1 d (sent_text bytes d delta text))

not_read : (kept : Kept) (number place k : ℕ) (m : SentMessage) (answer : EventAnswer) → IsPlaceOf number (length kept.replicas) place
    → at_number kept.messages k ≡ Some m → IsDeltaCause TooLong m.bytes ⊎ IsDeltaCause NotState m.bytes → answer ≡ Err BadState
    → Steps kept (Deliver number k) answer kept
not_read kept number place k m answer here sent cause is =
    stays kept (Deliver number k) answer
    (λ w stands.
    let x = replica_at kept w number place stands here in
    let f = message_at kept w k m stands sent in
    let bytes : m.bytes ≡ f.found.bytes = ap (λ (k : SentMessage). k.bytes) f.kept_is in
    let over : longest_text < length f.found.bytes = subst (λ (b : List ℕ). longest_text < length b) bytes (too_long m.bytes f.found.delta f.sent.delta (bytes ∙ f.sent.text) cause) in
    inl (rw x.there (rw f.there (inr (over, (is, refl))))))

pub not_delivered : (kept : Kept) (number place k : ℕ) (m : SentMessage) (fault : StateFault) (answer : EventAnswer)
    → IsPlaceOf number (length kept.replicas) place → at_number kept.messages k ≡ Some m
    → IsDeltaCause fault m.bytes → answer ≡ Err (refusal fault) → Steps kept (Deliver number k) answer kept
not_delivered kept number place k m TooLong answer here sent cause is = not_read kept number place k m answer here sent (inl cause) is
not_delivered kept number place k m NotState answer here sent cause is = not_read kept number place k m answer here sent (inr cause) is
not_delivered kept number place k m fault.NoMemory answer here sent cause is =
    subst (λ (a : EventAnswer). Steps kept (Deliver number k) a kept) (sym is) (deliver_ran_out kept number place k m here sent cause)
