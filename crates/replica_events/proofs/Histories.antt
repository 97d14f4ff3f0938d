-- What one event more says of what replicas have learnt, and of what messages carry.
use Rattle.std.proofs.Common.{◌≡◌, ◌↔◌, ℕ, ◌⊎◌, List, [], ◌∷◌, ◌++◌, Some, Ok, Contains, refl, sym, ap, subst, ◌∙◌, append_assoc, inl, inr, arith}
use Rattle.std.proofs.lemmas.List.Elements.{Contains-append_left, Contains-append_right, Contains-push, Contains-push_cases}
use Rattle.harvest_lattice.specs.Lattice.{Entries}
use Rattle.harvest_lattice.specs.Knowledge.{Harvested, adds}
use Rattle.replica_events.specs.declared.event.Event.{Event}
use Rattle.replica_events.specs.declared.event.Event.TheVariants.{Take, Deliver, Receive, Restart}
use Rattle.replica_events.specs.declared.event.Said.TheVariants.{Taken, Sent, Joined, Restarted}
use Rattle.replica_events.specs.World.{EventAnswer, IsText}
use Rattle.replica_events.specs.History.{Happened, History, NoRestart, sender_of, Learnt, took, received, through, Carries}

-- ---- lists and one element more

pub not_empty : {X : Type 0} (before after : List X) (y : X) → [] ≡ before ++ y ∷ after → ⊥
not_empty [] after y is = cc
not_empty (b ∷ before) after y is = cc

-- the element is the last one, or stands before it
abbrev pub Stood : {X : Type 0} → List X → X → List X → X → List X → Type 0
Stood {X} xs x before y after = ((xs ≡ before) × (x ≡ y) × (after ≡ [])) ⊎ ((rest : List X) × (xs ≡ before ++ y ∷ rest) × (after ≡ rest ++ x ∷ []))

stood_under : {X : Type 0} (z b : X) (xs before after : List X) (x y : X) → z ≡ b → Stood xs x before y after → Stood (z ∷ xs) x (b ∷ before) y after
stood_under z b xs before after x y head (inl (front, last, none)) = inl ((λ i. head i ∷ front i), last, none)
stood_under z b xs before after x y head (inr (rest, front, back)) = inr (rest, (λ i. head i ∷ front i), back)

pub stood : {X : Type 0} (xs before after : List X) (x y : X) → xs ++ x ∷ [] ≡ before ++ y ∷ after → Stood xs x before y after
stood [] [] after x y is = inl (refl, cc, cc)
stood [] (b ∷ before) after x y is = absurd (not_empty before after y (cc))
stood (z ∷ xs) [] after x y is = inr (xs, cc, cc)
stood (z ∷ xs) (b ∷ before) after x y is = stood_under z b xs before after x y (cc) (stood xs before after x y (cc))

pub grows : {X : Type 0} (all before after : List X) (x y : X) → all ≡ before ++ x ∷ after → all ++ y ∷ [] ≡ before ++ x ∷ (after ++ y ∷ [])
grows all before after x y is = ap (λ (l : List _). l ++ y ∷ []) is ∙ append_assoc before (x ∷ after) (y ∷ [])

-- ---- restarts

pub no_restart_yet : (i : ℕ) → NoRestart [] i
no_restart_yet i at = let below = at.1 in absurd (omega (arith, below))

abbrev pub IsRestart : Event → EventAnswer → ℕ → Type 0
IsRestart event answer i = (event ≡ Restart i) × (answer ≡ Ok Restarted)

pub no_restart_push : (history : History) (event : Event) (answer : EventAnswer) (i : ℕ) → NoRestart history i → ¬ IsRestart event answer i → NoRestart (history ++ (event, answer) ∷ []) i
no_restart_push history event answer i none other at = cases (Contains-push_cases history (event, answer) (Restart i, Ok Restarted) at)
  where
    cases : (Contains history (Restart i, Ok Restarted)) ⊎ (let x : Happened = (event, answer) in x ≡ (Restart i, Ok Restarted)) → ⊥
    cases (inl before) = none before
    cases (inr last) = other (ap (λ (x : Happened). x.0) last, ap (λ (x : Happened). x.1) last)

pub no_restart_before : (history : History) (event : Event) (answer : EventAnswer) (i : ℕ) → NoRestart (history ++ (event, answer) ∷ []) i → NoRestart history i
no_restart_before history event answer i none at = none (Contains-append_left history ((event, answer) ∷ []) (Restart i, Ok Restarted) at)

pub no_restart_last : (history : History) (event : Event) (answer : EventAnswer) (i : ℕ) → NoRestart (history ++ (event, answer) ∷ []) i → ¬ IsRestart event answer i
no_restart_last history event answer i none is =
    none (subst (λ (x : Happened). Contains (history ++ (event, answer) ∷ []) x) (λ k. (is.0 k, is.1 k)) (Contains-push history (event, answer)))

-- ---- messages

pub carries_still : (history : History) (event : Event) (answer : EventAnswer) (message : ℕ) (h : Harvested) → Carries history message h → Carries (history ++ (event, answer) ∷ []) message h
carries_still history event answer message h c = record {
  sender = c.sender;
  sending = c.sending;
  sends = c.sends;
  before = c.before;
  after = c.after ++ (event, answer) ∷ [];
  sent = grows history c.before c.after (c.sending, Ok (Sent message)) (event, answer) c.sent;
  learnt = c.learnt;
}

pub carries_now : (history : History) (sending : Event) (sender message : ℕ) (h : Harvested) → sender_of sending ≡ Some sender → Learnt history sender h
    → Carries (history ++ (sending, Ok (Sent message)) ∷ []) message h
carries_now history sending sender message h sends learnt = record { sender = sender; sending = sending; sends = sends; before = history; after = []; sent = refl; learnt = learnt }

-- the event sends the message, and its sender has learnt the harvest
pub record Sends (history : History) (event : Event) (answer : EventAnswer) (message : ℕ) (h : Harvested) : Type 0 where
  pub sender : ℕ
  pub sends : sender_of event ≡ Some sender
  pub answer_is : answer ≡ Ok (Sent message)
  pub learnt : Learnt history sender h

pub carries_before : (history : History) (event : Event) (answer : EventAnswer) (message : ℕ) (h : Harvested) → Carries (history ++ (event, answer) ∷ []) message h
    → Carries history message h ⊎ Sends history event answer message h
carries_before history event answer message h c = cases (stood history c.before c.after (event, answer) (c.sending, Ok (Sent message)) c.sent)
  where
    cases : Stood history (event, answer) c.before (c.sending, Ok (Sent message)) c.after → Carries history message h ⊎ Sends history event answer message h
    cases (inl (front, last, none)) = inr (record {
      sender = c.sender;
      sends = ap (λ (x : Happened). sender_of x.0) last ∙ c.sends;
      answer_is = ap (λ (x : Happened). x.1) last;
      learnt = subst (λ (l : History). Learnt l c.sender h) (sym front) c.learnt;
    })
    cases (inr (rest, front, back)) = inl (record { sender = c.sender; sending = c.sending; sends = c.sends; before = c.before; after = rest; sent = front; learnt = c.learnt })

pub carries_sent : (history : History) (message : ℕ) (h : Harvested) → Carries history message h → (sending : Event) × Contains history (sending, Ok (Sent message))
carries_sent history message h c =
    let x : Happened = (c.sending, Ok (Sent message)) in
    (c.sending, subst (λ (l : History). Contains l x) (sym c.sent) (Contains-append_right c.before (x ∷ c.after) x (Contains-append_left (x ∷ []) c.after x (Contains-push [] x))))

-- ---- what is learnt

-- by the event the replica gains the harvest
abbrev pub Gains : History → Event → EventAnswer → ℕ → Harvested → Type 0
Gains history event answer i h =
    ((event ≡ Take i h) × (answer ≡ Ok Taken))
    ⊎ (((bytes : List ℕ) × (state : Entries) × (event ≡ Receive i bytes) × (answer ≡ Ok Joined) × IsText bytes state × Contains (adds state) h)
    ⊎ ((message : ℕ) × (event ≡ Deliver i message) × (answer ≡ Ok Joined) × Carries history message h))

pub learnt_still : {history : History} {i : ℕ} {h : Harvested} (event : Event) (answer : EventAnswer) → Learnt history i h → ¬ IsRestart event answer i
    → Learnt (history ++ (event, answer) ∷ []) i h
learnt_still event answer (took {history} {i} {h} before after is none) other =
    took before (after ++ (event, answer) ∷ []) (grows history before after (Take i h, Ok Taken) (event, answer) is) (no_restart_push after event answer i none other)
learnt_still event answer (received {history} {i} {h} before after bytes state is none text at) other =
    received before (after ++ (event, answer) ∷ []) bytes state (grows history before after (Receive i bytes, Ok Joined) (event, answer) is) (no_restart_push after event answer i none other) text at
learnt_still event answer (through {history} {i} {h} before between after sender message sending sends is none learnt) other =
    let x : Happened = (sending, Ok (Sent message)) in
    through before between (after ++ (event, answer) ∷ []) sender message sending sends (grows history (before ++ x ∷ between) after (Deliver i message, Ok Joined) (event, answer) is)
    (no_restart_push after event answer i none other) learnt

pub learnt_now : (history : History) (event : Event) (answer : EventAnswer) (i : ℕ) (h : Harvested) → Gains history event answer i h → Learnt (history ++ (event, answer) ∷ []) i h
learnt_now history event answer i h (inl (event_is, answer_is)) =
    took history [] (λ k. history ++ (event_is k, answer_is k) ∷ []) (no_restart_yet i)
learnt_now history event answer i h (inr (inl (bytes, state, event_is, answer_is, text, at))) =
    received history [] bytes state (λ k. history ++ (event_is k, answer_is k) ∷ []) (no_restart_yet i) text at
learnt_now history event answer i h (inr (inr (message, event_is, answer_is, c))) =
    through c.before c.after [] c.sender message c.sending c.sends (λ k. c.sent k ++ (event_is k, answer_is k) ∷ []) (no_restart_yet i) c.learnt

-- it was learnt before and the event is no restart, or the event brings it
abbrev pub After : History → Event → EventAnswer → ℕ → Harvested → Type 0
After history event answer i h = (Learnt history i h × ¬ IsRestart event answer i) ⊎ Gains history event answer i h

took_after : (history before after : History) (event : Event) (answer : EventAnswer) (i : ℕ) (h : Harvested) → NoRestart after i
    → Stood history (event, answer) before (Take i h, Ok Taken) after → After history event answer i h
took_after history before after event answer i h none (inl (front, last, back)) = inr (inl (ap (λ (x : Happened). x.0) last, ap (λ (x : Happened). x.1) last))
took_after history before after event answer i h none (inr (rest, front, back)) =
    let still : NoRestart (rest ++ (event, answer) ∷ []) i = subst (λ (l : History). NoRestart l i) back none in
    inl (took before rest front (no_restart_before rest event answer i still), no_restart_last rest event answer i still)

received_after : (history before after : History) (event : Event) (answer : EventAnswer) (i : ℕ) (h : Harvested) (bytes : List ℕ) (state : Entries) → NoRestart after i
    → IsText bytes state → Contains (adds state) h → Stood history (event, answer) before (Receive i bytes, Ok Joined) after → After history event answer i h
received_after history before after event answer i h bytes state none text at (inl (front, last, back)) =
    inr (inr (inl (bytes, state, ap (λ (x : Happened). x.0) last, ap (λ (x : Happened). x.1) last, text, at)))
received_after history before after event answer i h bytes state none text at (inr (rest, front, back)) =
    let still : NoRestart (rest ++ (event, answer) ∷ []) i = subst (λ (l : History). NoRestart l i) back none in
    inl (received before rest bytes state front (no_restart_before rest event answer i still) text at, no_restart_last rest event answer i still)

through_after : (history before between after : History) (event : Event) (answer : EventAnswer) (i sender message : ℕ) (sending : Event) (h : Harvested)
    → sender_of sending ≡ Some sender → NoRestart after i
    → Learnt before sender h → Stood history (event, answer) (before ++ (sending, Ok (Sent message)) ∷ between) (Deliver i message, Ok Joined) after → After history event answer i h
through_after history before between after event answer i sender message sending h sends none learnt (inl (front, last, back)) =
    inr (inr (inr (
      message,
      ap (λ (x : Happened). x.0) last,
      ap (λ (x : Happened). x.1) last,
      record { sender = sender; sending = sending; sends = sends; before = before; after = between; sent = front; learnt = learnt },
    )))
through_after history before between after event answer i sender message sending h sends none learnt (inr (rest, front, back)) =
    let still : NoRestart (rest ++ (event, answer) ∷ []) i = subst (λ (l : History). NoRestart l i) back none in
    inl (through before between rest sender message sending sends front (no_restart_before rest event answer i still) learnt, no_restart_last rest event answer i still)

pub learnt_after : {all : History} {i : ℕ} {h : Harvested} (history : History) (event : Event) (answer : EventAnswer) → history ++ (event, answer) ∷ [] ≡ all → Learnt all i h
    → After history event answer i h
learnt_after history event answer all_is (took {i} {h} before after is none) =
    took_after history before after event answer i h none (stood history before after (event, answer) (Take i h, Ok Taken) (all_is ∙ is))
learnt_after history event answer all_is (received {i} {h} before after bytes state is none text at) =
    received_after history before after event answer i h bytes state none text at (stood history before after (event, answer) (Receive i bytes, Ok Joined) (all_is ∙ is))
learnt_after history event answer all_is (through {i} {h} before between after sender message sending sends is none learnt) =
    let x : Happened = (sending, Ok (Sent message)) in
    through_after history before between after event answer i sender message sending h sends none learnt
    (stood history (before ++ x ∷ between) after (event, answer) (Deliver i message, Ok Joined) (all_is ∙ is))

-- so what a replica has learnt is what it had, and what the event brings
pub learnt_push : {A B : Type 0} (history : History) (event : Event) (answer : EventAnswer) (i : ℕ) (h : Harvested) → A ↔ Learnt history i h → B ↔ Gains history event answer i h
    → ¬ IsRestart event answer i → (A ⊎ B) ↔ Learnt (history ++ (event, answer) ∷ []) i h
learnt_push {A} {B} history event answer i h before gains other = (to, λ learnt. from (learnt_after history event answer refl learnt))
  where
    to : A ⊎ B → Learnt (history ++ (event, answer) ∷ []) i h
    to (inl a) = learnt_still event answer (before.0 a) other
    to (inr b) = learnt_now history event answer i h (gains.0 b)

    from : After history event answer i h → A ⊎ B
    from (inl (learnt, other)) = inl (before.1 learnt)
    from (inr gained) = inr (gains.1 gained)

-- after its restart a replica has learnt nothing
pub nothing_after_restart : (history : History) (i : ℕ) (h : Harvested) → ¬ Learnt (history ++ (Restart i, Ok Restarted) ∷ []) i h
nothing_after_restart history i h learnt = from (learnt_after history (Restart i) (Ok Restarted) refl learnt)
  where
    from : After history (Restart i) (Ok Restarted) i h → ⊥
    from (inl (learnt, other)) = other (refl, refl)
    from (inr (inl (event_is, answer_is))) = cc
    from (inr (inr (inl (bytes, state, event_is, answer_is, text, at)))) = cc
    from (inr (inr (inr (message, event_is, answer_is, c)))) = cc

-- and nothing at first
pub nothing_at_first : {all : History} {i : ℕ} {h : Harvested} → [] ≡ all → ¬ Learnt all i h
nothing_at_first first (took before after is none) = not_empty before after _ (first ∙ is)
nothing_at_first first (received before after bytes state is none text at) = not_empty before after _ (first ∙ is)
nothing_at_first first (through before between after sender message sending sends is none learnt) = not_empty (before ++ (sending, Ok (Sent message)) ∷ between) after _ (first ∙ is)
