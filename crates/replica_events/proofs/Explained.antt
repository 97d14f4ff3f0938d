-- After a run, what replicas have taken is what they have learnt.
use Rattle.std.proofs.Common.{◌≡◌, ◌↔◌, ℕ, ◌+◌, ◌≤◌, ◌⊎◌, List, [], ◌∷◌, ◌++◌, length, Some, Ok, Err, Contains, refl, sym, ap, subst, ◌∙◌, inl, inr, arith}
use Rattle.std.proofs.lemmas.List.{length_push}
use Rattle.std.proofs.lemmas.Option.{same_Some}
use Rattle.std.proofs.lemmas.List.Elements.{Contains-append_left, Contains-append_right, Contains-append_cases, Contains-push, Contains-push_cases}
use Rattle.harvest_lattice.specs.Lattice.{Entries}
use Rattle.harvest_lattice.specs.Knowledge.{Harvested, adds}
use Rattle.replica_exchange.specs.StateText.{IsTextOf}
use Rattle.timegate.specs.declared.reply.Reply.{Reply}
use Rattle.timegate.specs.declared.request.Request.{Request}
use Rattle.replica_events.specs.declared.event.Event.{Event}
use Rattle.replica_events.specs.declared.event.Event.TheVariants.{Take, Deliver, Receive, Restart, Ask}
use Rattle.replica_events.specs.declared.event.Said.TheVariants.{Taken, Sent, Joined, Restarted, Replied}
use Rattle.replica_events.specs.declared.event.Refused.{Refused}
use Rattle.memento_index.specs.declared.merge.Merge.TheVariants as merge
use Rattle.replica_exchange.specs.declared.delta.Delta.{Delta}
use Rattle.replica_exchange.specs.DeltaText.{delta_text}
use Rattle.replica_exchange.specs.CursorRule.{delta_from}
use Rattle.replica_exchange.proofs.StateLemmas.{one_state}
use Rattle.replica_events.specs.World.{Knowledge, World, Replica, Message, EventAnswer, Course, IsText, at_number, replica, message, with_replica}
use Rattle.replica_events.specs.World.{with_message, after_merge, after_join, sent_by, new_replica, start, after_restart}
use Rattle.replica_events.specs.Agreement.{HasTaken, SameHarvests}
use Rattle.replica_events.specs.History.{Happened, History, history_of, sender_of, Learnt, LearntAlike, Carries, HasSent}
use Rattle.replica_events.proofs.Numbers.{IsPlaced, replica_placed, messages_stay, Pushed, pushed}
use Rattle.replica_events.proofs.Moments.{at_first, no_message_at_first}
use Rattle.replica_events.proofs.Changes as change
use Rattle.replica_events.proofs.Changes.{Change, happened_as, course_keeps}
use Rattle.replica_events.proofs.Histories.{IsRestart, Gains, Sends, carries_still, carries_now, carries_before, carries_sent, learnt_push, nothing_after_restart, nothing_at_first}

-- ---- one event

-- replicas have taken what they have learnt, and messages have what their senders had learnt
record Explains (history : History) (w : World) : Type 0 where
  pub taken : (i : ℕ) (r : Replica) → replica w i ≡ Some r → (h : Harvested) → Contains r.taken h ↔ Learnt history i h
  pub carried : (k : ℕ) (m : Message) → message w k ≡ Some m → (h : Harvested) → Contains m.taken h ↔ Carries history k h
  pub numbers : (sending : Event) (k : ℕ) → Contains history (sending, Ok (Sent k)) → k ≤ length w.messages
  pub sent : (k : ℕ) (m : Message) → message w k ≡ Some m → HasSent history m.sender k
  pub bytes : (k : ℕ) (m : Message) → message w k ≡ Some m → m.bytes ≡ delta_text m.delta

-- the answer isn't that a message was sent
abbrev IsUnsent : EventAnswer → Type 0
IsUnsent answer = (message : ℕ) → answer ≡ Ok (Sent message) → ⊥

sent_still : (history : History) (happened : Happened) (sender k : ℕ) → HasSent history sender k → HasSent (history ++ happened ∷ []) sender k
sent_still history happened sender k s = record { sending = s.sending; sends = s.sends; sent = Contains-append_left history (happened ∷ []) (s.sending, Ok (Sent k)) s.sent }

-- an event that sends no message changes none
without_message : (history : History) (event : Event) (answer : EventAnswer) (w new : World) → Explains history w → new.messages ≡ w.messages → IsUnsent answer
    → ((i : ℕ) (r : Replica) → replica new i ≡ Some r → (h : Harvested) → Contains r.taken h ↔ Learnt (history ++ (event, answer) ∷ []) i h)
    → Explains (history ++ (event, answer) ∷ []) new
without_message history event answer w new explains same unsent taken = record {
  taken = taken;
  carried = λ k m there h.
      let before = explains.carried k m (subst (λ (ms : List Message). at_number ms k ≡ Some m) same there) h in
      (λ has. carries_still history event answer k h (before.0 has), λ c. before.1 (not_sent k h (carries_before history event answer k h c)));
  numbers = λ sending k at. subst (λ (ms : List Message). k ≤ length ms) (sym same) (not_last sending k (Contains-push_cases history (event, answer) (sending, Ok (Sent k)) at));
  sent = λ k m there. sent_still history (event, answer) m.sender k (explains.sent k m (subst (λ (ms : List Message). at_number ms k ≡ Some m) same there));
  bytes = λ k m there. explains.bytes k m (subst (λ (ms : List Message). at_number ms k ≡ Some m) same there);
}
  where
    not_sent : (k : ℕ) (h : Harvested) → Carries history k h ⊎ Sends history event answer k h → Carries history k h
    not_sent k h (inl c) = c
    not_sent k h (inr s) = absurd (unsent k s.answer_is)

    not_last : (sending : Event) (k : ℕ) → (Contains history (sending, Ok (Sent k))) ⊎ (let x : Happened = (event, answer) in x ≡ (sending, Ok (Sent k))) → k ≤ length w.messages
    not_last sending k (inl before) = explains.numbers sending k before
    not_last sending k (inr last) = absurd (unsent k (ap (λ (x : Happened). x.1) last))

-- what a replica has learnt stays so, where the event is not about it
same_learnt : {A : Type 0} (history : History) (event : Event) (answer : EventAnswer) (i : ℕ) (h : Harvested) → A ↔ Learnt history i h → ¬ Gains history event answer i h
    → ¬ IsRestart event answer i → A ↔ Learnt (history ++ (event, answer) ∷ []) i h
same_learnt {A} history event answer i h before idle other = (λ a. both.0 (inl a), λ learnt. had (both.1 learnt))
  where
    both : (A ⊎ ⊥) ↔ Learnt (history ++ (event, answer) ∷ []) i h
    both = learnt_push history event answer i h before (λ none. absurd none, idle) other

    had : A ⊎ ⊥ → A
    had (inl a) = a
    had (inr none) = absurd none

-- nothing happens
idles : (history : History) (event : Event) (answer : EventAnswer) (w : World) → Explains history w → IsUnsent answer
    → ((i : ℕ) → ¬ IsRestart event answer i) → ((i : ℕ) (h : Harvested) → ¬ Gains history event answer i h) → Explains (history ++ (event, answer) ∷ []) w
idles history event answer w explains unsent other idle =
    without_message history event answer w w explains refl unsent (λ i r there h. same_learnt history event answer i h (explains.taken i r there h) (idle i h) (other i))

refused : (history : History) (event : Event) (why : Refused) (w : World) → Explains history w → Explains (history ++ (event, Err why) ∷ []) w
refused history event why w explains = idles history event (Err why) w explains (λ message answer_is. cc) other none
  where
    other : (i : ℕ) → ¬ IsRestart event (Err why) i
    other i (event_is, answer_is) = cc

    none : (i : ℕ) (h : Harvested) → ¬ Gains history event (Err why) i h
    none i h (inl (event_is, answer_is)) = cc
    none i h (inr (inl (bytes, state, event_is, answer_is, text, at))) = cc
    none i h (inr (inr (message, event_is, answer_is, c))) = cc

replied : (history : History) (i : ℕ) (q : Request) (r : Reply) (w : World) → Explains history w → Explains (history ++ (Ask i q, Ok (Replied r)) ∷ []) w
replied history i q r w explains = idles history (Ask i q) (Ok (Replied r)) w explains (λ message answer_is. cc) other none
  where
    other : (j : ℕ) → ¬ IsRestart (Ask i q) (Ok (Replied r)) j
    other j (event_is, answer_is) = cc

    none : (j : ℕ) (h : Harvested) → ¬ Gains history (Ask i q) (Ok (Replied r)) j h
    none j h (inl (event_is, answer_is)) = cc
    none j h (inr (inl (bytes, state, event_is, answer_is, text, at))) = cc
    none j h (inr (inr (message, event_is, answer_is, c))) = cc

-- one replica takes more
gains : (history : History) (event : Event) (answer : EventAnswer) (w : World) (i : ℕ) (r next : Replica) (more : Knowledge) → next.taken ≡ r.taken ++ more → Explains history w → replica w i ≡ Some r
    → IsUnsent answer → ((j : ℕ) → ¬ IsRestart event answer j)
    → ((h : Harvested) → Contains more h ↔ Gains history event answer i h) → ((j : ℕ) (h : Harvested) → Gains history event answer j h → j ≡ i)
    → Explains (history ++ (event, answer) ∷ []) (with_replica w i next)
gains history event answer w i r next more next_is explains there unsent other brings only =
    without_message history event answer w (with_replica w i next) explains (messages_stay w i next) unsent
    (λ j s is h. at j s h (replica_placed w i r next j s there is))
  where
    here : (h : Harvested) → Contains (r.taken ++ more) h ↔ Learnt (history ++ (event, answer) ∷ []) i h
    here h =
        let both = learnt_push history event answer i h (explains.taken i r there h) (brings h) (other i) in
        (λ has. both.0 (Contains-append_cases r.taken more h has), λ learnt. joined (both.1 learnt))
      where
        joined : Contains r.taken h ⊎ Contains more h → Contains (r.taken ++ more) h
        joined (inl before) = Contains-append_left r.taken more h before
        joined (inr now) = Contains-append_right r.taken more h now

    at : (j : ℕ) (s : Replica) (h : Harvested) → IsPlaced w i next j s → Contains s.taken h ↔ Learnt (history ++ (event, answer) ∷ []) j h
    at j s h (inl (same, is)) =
        subst (λ (s : Replica). Contains s.taken h ↔ Learnt (history ++ (event, answer) ∷ []) j h) (sym is)
        (subst (λ (j : ℕ). Contains next.taken h ↔ Learnt (history ++ (event, answer) ∷ []) j h) (sym same)
        (subst (λ (known : Knowledge). Contains known h ↔ Learnt (history ++ (event, answer) ∷ []) i h) (sym next_is) (here h)))
    at j s h (inr (elsewhere, is)) = same_learnt history event answer j h (explains.taken j s is h) (λ g. elsewhere (only j h g)) (other j)

only_one : (g h : Harvested) → Contains (g ∷ []) h → g ≡ h
only_one g h at = last (Contains-push_cases [] g h at)
  where
    last : Contains [] h ⊎ (g ≡ h) → g ≡ h
    last (inl none) = let below = none.1 in absurd (omega (arith, below))
    last (inr is) = is

taken : (history : History) (w : World) (i : ℕ) (g : Harvested) (r : Replica) → Explains history w → replica w i ≡ Some r
    → Explains (history ++ (Take i g, Ok Taken) ∷ []) (with_replica w i (after_merge r (g ∷ []) (merge.Harvest g)))
taken history w i g r explains there =
    gains history (Take i g) (Ok Taken) w i r (after_merge r (g ∷ []) (merge.Harvest g)) (g ∷ []) refl explains there (λ message answer_is. cc) other (λ h. (λ at. to h (only_one g h at), from h)) only
  where
    other : (j : ℕ) → ¬ IsRestart (Take i g) (Ok Taken) j
    other j (event_is, answer_is) = cc

    to : (h : Harvested) → g ≡ h → Gains history (Take i g) (Ok Taken) i h
    to h is = inl (ap (λ (h : Harvested). Take i h) is, refl)

    from : (h : Harvested) → Gains history (Take i g) (Ok Taken) i h → Contains (g ∷ []) h
    from h (inl (event_is, answer_is)) = let is : g ≡ h = cc in subst (λ (h : Harvested). Contains (g ∷ []) h) is (Contains-push [] g)
    from h (inr (inl (bytes, state, event_is, answer_is, text, at))) = cc
    from h (inr (inr (message, event_is, answer_is, c))) = cc

    only : (j : ℕ) (h : Harvested) → Gains history (Take i g) (Ok Taken) j h → j ≡ i
    only j h (inl (event_is, answer_is)) = cc
    only j h (inr (inl (bytes, state, event_is, answer_is, text, at))) = cc
    only j h (inr (inr (message, event_is, answer_is, c))) = cc

received : (history : History) (w : World) (i : ℕ) (bytes : List ℕ) (s : Entries) (r : Replica) → Explains history w → replica w i ≡ Some r → IsText bytes s
    → Explains (history ++ (Receive i bytes, Ok Joined) ∷ []) (with_replica w i (after_merge r (adds s) (merge.State s)))
received history w i bytes s r explains there text =
    gains history (Receive i bytes) (Ok Joined) w i r (after_merge r (adds s) (merge.State s)) (adds s) refl explains there (λ message answer_is. cc) other (λ h. (to h, from h)) only
  where
    other : (j : ℕ) → ¬ IsRestart (Receive i bytes) (Ok Joined) j
    other j (event_is, answer_is) = cc

    to : (h : Harvested) → Contains (adds s) h → Gains history (Receive i bytes) (Ok Joined) i h
    to h at = inr (inl (bytes, s, refl, refl, text, at))

    from : (h : Harvested) → Gains history (Receive i bytes) (Ok Joined) i h → Contains (adds s) h
    from h (inl (event_is, answer_is)) = cc
    from h (inr (inl (others, state, event_is, answer_is, also, at))) =
        let bytes_is : bytes ≡ others = cc in
        let same : state ≡ s = one_state bytes state s (subst (λ (b : List ℕ). IsTextOf b state) (sym bytes_is) also.text) text.text in
        subst (λ (s : Entries). Contains (adds s) h) same at
    from h (inr (inr (message, event_is, answer_is, c))) = cc

    only : (j : ℕ) (h : Harvested) → Gains history (Receive i bytes) (Ok Joined) j h → j ≡ i
    only j h (inl (event_is, answer_is)) = cc
    only j h (inr (inl (others, state, event_is, answer_is, also, at))) = cc
    only j h (inr (inr (message, event_is, answer_is, c))) = cc

delivered : (history : History) (w : World) (i k : ℕ) (m : Message) (r : Replica) → Explains history w → replica w i ≡ Some r → message w k ≡ Some m
    → Explains (history ++ (Deliver i k, Ok Joined) ∷ []) (with_replica w i (after_join r m))
delivered history w i k m r explains there sent =
    gains history (Deliver i k) (Ok Joined) w i r (after_join r m) m.taken refl explains there (λ message answer_is. cc) other (λ h. (to h, from h)) only
  where
    other : (j : ℕ) → ¬ IsRestart (Deliver i k) (Ok Joined) j
    other j (event_is, answer_is) = cc

    to : (h : Harvested) → Contains m.taken h → Gains history (Deliver i k) (Ok Joined) i h
    to h at = inr (inr (k, refl, refl, (explains.carried k m sent h).0 at))

    from : (h : Harvested) → Gains history (Deliver i k) (Ok Joined) i h → Contains m.taken h
    from h (inl (event_is, answer_is)) = cc
    from h (inr (inl (bytes, state, event_is, answer_is, text, at))) = cc
    from h (inr (inr (number, event_is, answer_is, c))) =
        let is : number ≡ k = cc in
        (explains.carried k m sent h).1 (subst (λ (k : ℕ). Carries history k h) is c)

    only : (j : ℕ) (h : Harvested) → Gains history (Deliver i k) (Ok Joined) j h → j ≡ i
    only j h (inl (event_is, answer_is)) = cc
    only j h (inr (inl (bytes, state, event_is, answer_is, text, at))) = cc
    only j h (inr (inr (number, event_is, answer_is, c))) = cc

restarted : (history : History) (w : World) (i : ℕ) (r : Replica) → Explains history w → replica w i ≡ Some r → Explains (history ++ (Restart i, Ok Restarted) ∷ []) (after_restart w i)
restarted history w i r explains there =
    without_message history (Restart i) (Ok Restarted) w (after_restart w i) explains (messages_stay w i (new_replica (w.last + 1))) (λ message answer_is. cc)
    (λ j s is h. at j s h (replica_placed w i r (new_replica (w.last + 1)) j s there is))
  where
    none : (j : ℕ) (h : Harvested) → ¬ Gains history (Restart i) (Ok Restarted) j h
    none j h (inl (event_is, answer_is)) = cc
    none j h (inr (inl (bytes, state, event_is, answer_is, text, at))) = cc
    none j h (inr (inr (message, event_is, answer_is, c))) = cc

    nothing : (h : Harvested) → ¬ Contains [] h
    nothing h at = let below = at.1 in absurd (omega (arith, below))

    here : (h : Harvested) → Contains [] h ↔ Learnt (history ++ (Restart i, Ok Restarted) ∷ []) i h
    here h = (λ has. absurd (nothing h has), λ learnt. absurd (nothing_after_restart history i h learnt))

    same : (j : ℕ) → IsRestart (Restart i) (Ok Restarted) j → j ≡ i
    same j (event_is, answer_is) = cc

    at : (j : ℕ) (s : Replica) (h : Harvested) → IsPlaced w i (new_replica (w.last + 1)) j s → Contains s.taken h ↔ Learnt (history ++ (Restart i, Ok Restarted) ∷ []) j h
    at j s h (inl (j_is, is)) =
        subst (λ (s : Replica). Contains s.taken h ↔ Learnt (history ++ (Restart i, Ok Restarted) ∷ []) j h) (sym is)
        (subst (λ (j : ℕ). Contains [] h ↔ Learnt (history ++ (Restart i, Ok Restarted) ∷ []) j h) (sym j_is) (here h))
    at j s h (inr (elsewhere, is)) = same_learnt history (Restart i) (Ok Restarted) j h (explains.taken j s is h) (none j h) (λ again. elsewhere (same j again))

sent : (history : History) (w : World) (event : Event) (i : ℕ) (r : Replica) (d : Delta) → sender_of event ≡ Some i → Explains history w → replica w i ≡ Some r
    → Explains (history ++ (event, Ok (Sent (length w.messages + 1))) ∷ []) (with_message w (sent_by i r d))
sent history w event i r d sends explains there = record {
  taken = λ j s is h. same_learnt history event said j h (explains.taken j s is h) (none j h) (other j);
  carried = λ k m is h. at k m h (pushed w.messages (sent_by i r d) k m is);
  numbers = λ sending k has.
      let count = length_push w.messages (sent_by i r d) in
      let few : k ≤ length w.messages + 1 = bound sending k (Contains-push_cases history (event, said) (sending, Ok (Sent k)) has) in
      omega (arith, count, few);
  sent = λ k m is. sender k m (pushed w.messages (sent_by i r d) k m is);
  bytes = λ k m is. text k m (pushed w.messages (sent_by i r d) k m is);
}
  where
    said : EventAnswer
    said = Ok (Sent (length w.messages + 1))

    none : (j : ℕ) (h : Harvested) → ¬ Gains history event said j h
    none j h (inl (event_is, answer_is)) = cc
    none j h (inr (inl (bytes, state, event_is, answer_is, text, at))) = cc
    none j h (inr (inr (message, event_is, answer_is, c))) = cc

    other : (j : ℕ) → ¬ IsRestart event said j
    other j (event_is, answer_is) = cc

    last : (sending : Event) (k : ℕ) → (let x : Happened = (event, Ok (Sent (length w.messages + 1))) in x ≡ (sending, Ok (Sent k))) → k ≡ length w.messages + 1
    last sending k is = let answer_is : said ≡ Ok (Sent k) = ap (λ (x : Happened). x.1) is in cc

    bound : (sending : Event) (k : ℕ) → (Contains history (sending, Ok (Sent k))) ⊎ (let x : Happened = (event, said) in x ≡ (sending, Ok (Sent k))) → k ≤ length w.messages + 1
    bound sending k (inl before) = let few = explains.numbers sending k before in omega (arith, few)
    bound sending k (inr now) = let is = last sending k now in omega (arith, is)

    new_message : (h : Harvested) → Contains r.taken h ↔ Carries (history ++ (event, said) ∷ []) (length w.messages + 1) h
    new_message h = (λ has. carries_now history event i (length w.messages + 1) h sends ((explains.taken i r there h).0 has), λ c. had (carries_before history event said (length w.messages + 1) h c))
      where
        had : Carries history (length w.messages + 1) h ⊎ Sends history event said (length w.messages + 1) h → Contains r.taken h
        had (inl c) =
            let before = carries_sent history (length w.messages + 1) h c in
            let few = explains.numbers before.0 (length w.messages + 1) before.1 in
            absurd (omega (arith, few))
        had (inr s) =
            let is : s.sender ≡ i = same_Some s.sender i (sym s.sends ∙ sends) in
            (explains.taken i r there h).1 (subst (λ (j : ℕ). Learnt history j h) is s.learnt)

    old_message : (k : ℕ) (h : Harvested) → k ≤ length w.messages → Carries history k h ⊎ Sends history event said k h → Carries history k h
    old_message k h few (inl c) = c
    old_message k h few (inr s) =
        let answer_is : said ≡ Ok (Sent k) = s.answer_is in
        let is : k ≡ length w.messages + 1 = cc in
        absurd (omega (arith, is, few))

    at : (k : ℕ) (m : Message) (h : Harvested) → Pushed w.messages (sent_by i r d) k m → Contains m.taken h ↔ Carries (history ++ (event, said) ∷ []) k h
    at k m h (inl (k_is, is)) =
        subst (λ (m : Message). Contains m.taken h ↔ Carries (history ++ (event, said) ∷ []) k h) (sym is)
        (subst (λ (k : ℕ). Contains r.taken h ↔ Carries (history ++ (event, said) ∷ []) k h) (sym k_is) (new_message h))
    at k m h (inr (few, is)) =
        let before = explains.carried k m is h in
        (λ has. carries_still history event said k h (before.0 has), λ c. before.1 (old_message k h few (carries_before history event said k h c)))

    sent_now : HasSent (history ++ (event, said) ∷ []) i (length w.messages + 1)
    sent_now = record { sending = event; sends = sends; sent = Contains-push history (event, said) }

    sender : (k : ℕ) (m : Message) → Pushed w.messages (sent_by i r d) k m → HasSent (history ++ (event, said) ∷ []) m.sender k
    sender k m (inl (k_is, is)) =
        subst (λ (m : Message). HasSent (history ++ (event, said) ∷ []) m.sender k) (sym is)
        (subst (λ (k : ℕ). HasSent (history ++ (event, said) ∷ []) i k) (sym k_is) sent_now)
    sender k m (inr (few, is)) = sent_still history (event, said) m.sender k (explains.sent k m is)

    text : (k : ℕ) (m : Message) → Pushed w.messages (sent_by i r d) k m → m.bytes ≡ delta_text m.delta
    text k m (inl (k_is, is)) = subst (λ (m : Message). m.bytes ≡ delta_text m.delta) (sym is) refl
    text k m (inr (few, is)) = explains.bytes k m is

-- ---- each event

change_explained : (history : History) (w : World) (event : Event) (answer : EventAnswer) (new : World) → Explains history w
    → Change w event answer new → Explains (history ++ (event, answer) ∷ []) new
change_explained history w event answer new explains (change.idle (inl (why, answer_is)) is) =
    happened_as Explains history event event answer (Err why) new w refl answer_is is (refused history event why w explains)
change_explained history w event answer new explains (change.idle (inr (i, q, r, event_is, answer_is)) is) =
    happened_as Explains history event (Ask i q) answer (Ok (Replied r)) new w event_is answer_is is (replied history i q r w explains)
change_explained history w event answer new explains (change.took i h r there event_is answer_is is) =
    happened_as Explains history event (Take i h) answer (Ok Taken) new _ event_is answer_is is (taken history w i h r explains there)
change_explained history w event answer new explains (change.received i bytes s r there text event_is answer_is is) =
    happened_as Explains history event (Receive i bytes) answer (Ok Joined) new _ event_is answer_is is (received history w i bytes s r explains there text)
change_explained history w event answer new explains (change.joined i k r m there found fit event_is answer_is is) =
    happened_as Explains history event (Deliver i k) answer (Ok Joined) new _ event_is answer_is is (delivered history w i k m r explains there found)
change_explained history w event answer new explains (change.sent i r s cursor there stamped own sends answer_is is) =
    happened_as Explains history event event answer (Ok (Sent (length w.messages + 1))) new _ refl answer_is is (sent history w event i r (delta_from s cursor) sends explains there)
change_explained history w event answer new explains (change.restarted i r there event_is answer_is is) =
    happened_as Explains history event (Restart i) answer (Ok Restarted) new _ event_is answer_is is (restarted history w i r explains there)

-- ---- runs

start_explained : (count : ℕ) → Explains [] (start count)
start_explained count = record {
  taken = λ i r there h.
      let is : r.taken ≡ [] = ap (λ (r : Replica). r.taken) (at_first count i r there).0 in
      (λ has. absurd (nothing (subst (λ (known : Knowledge). Contains known h) is has)), λ learnt. absurd (nothing_at_first refl learnt));
  carried = λ k m there h. absurd (no_message_at_first count k m there);
  numbers = λ sending k at. let below = at.1 in absurd (omega (arith, below));
  sent = λ k m there. absurd (no_message_at_first count k m there);
  bytes = λ k m there. absurd (no_message_at_first count k m there);
}
  where
    nothing : {h : Harvested} → ¬ Contains [] h
    nothing at = let below = at.1 in absurd (omega (arith, below))

course_explained : {base : List ℕ} (course : Course base) → Explains (history_of course) course.world
course_explained {base} course = course_keeps Explains change_explained course (start_explained course.count)

-- what a replica has taken is what it has learnt
pub taken_is_learnt : {base : List ℕ} (course : Course base) (i : ℕ) (known : Knowledge) → HasTaken course.world i known → (h : Harvested) → Contains known h ↔ Learnt (history_of course) i h
taken_is_learnt course i known (r, there, is) h =
    subst (λ (known : Knowledge). Contains known h ↔ Learnt (history_of course) i h) is ((course_explained course).taken i r there h)

-- a message has what its sender had learnt, its sender, and the text of its delta
pub message_carries : {base : List ℕ} (course : Course base) (k : ℕ) (m : Message) → message course.world k ≡ Some m → (h : Harvested) → Contains m.taken h ↔ Carries (history_of course) k h
message_carries course k m there h = (course_explained course).carried k m there h

pub message_sender : {base : List ℕ} (course : Course base) (k : ℕ) (m : Message) → message course.world k ≡ Some m → HasSent (history_of course) m.sender k
message_sender course k m there = (course_explained course).sent k m there

pub message_bytes : {base : List ℕ} (course : Course base) (k : ℕ) (m : Message) → message course.world k ≡ Some m → m.bytes ≡ delta_text m.delta
message_bytes course k m there = (course_explained course).bytes k m there

-- so replicas that have learnt the same have taken the same
pub same_harvests : {base : List ℕ} (course : Course base) (i j : ℕ) (known other : Knowledge) → HasTaken course.world i known → HasTaken course.world j other
    → LearntAlike (history_of course) i j → SameHarvests known other
same_harvests course i j known other i_is j_is alike h =
    let one = taken_is_learnt course i known i_is h in
    let two = taken_is_learnt course j other j_is h in
    (λ at. two.1 ((alike h).0 (one.0 at)), λ at. one.1 ((alike h).1 (two.0 at)))
