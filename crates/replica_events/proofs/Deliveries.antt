-- Lost, repeated and reordered deliveries.
use Rattle.std.proofs.Common.{◌≡◌, ◌↔◌, ℕ, ◌⊎◌, List, [], ◌∷◌, ◌++◌, Ok, Contains, refl, sym, ap, subst, ◌∙◌, append_assoc, append-nil, inl, inr}
use Rattle.std.proofs.lemmas.List.Elements.{Contains-append_left, Contains-append_right, Contains-push}
use Rattle.harvest_lattice.specs.Knowledge.{Harvested}
use Rattle.replica_events.specs.declared.event.Event.{Event}
use Rattle.replica_events.specs.declared.event.Event.TheVariants.{Deliver}
use Rattle.replica_events.specs.declared.event.Said.TheVariants.{Sent, Joined}
use Rattle.replica_events.specs.World.{EventAnswer}
use Rattle.replica_events.specs.History.{Happened, History, NoRestart, Learnt, through, Carries, IsLocal}
use Rattle.replica_events.proofs.Histories.{IsRestart, Gains, After, Sends, carries_still, carries_now, carries_before, learnt_still, learnt_now, learnt_after}

-- ---- histories that say the same

-- every replica has learnt the same, and these messages carry the same
record Alike (Names : ℕ → Type 0) (one other : History) : Type 0 where
  pub learnt : (i : ℕ) (h : Harvested) → Learnt one i h ↔ Learnt other i h
  pub carries : (k : ℕ) (h : Harvested) → Names k → Carries one k h ↔ Carries other k h

alike_back : {Names : ℕ → Type 0} {one other : History} → Alike Names one other → Alike Names other one
alike_back a = record { learnt = λ i h. ((a.learnt i h).1, (a.learnt i h).0); carries = λ k h named. ((a.carries k h named).1, (a.carries k h named).0) }

-- an event delivers only these messages
abbrev Delivers : (ℕ → Type 0) → Event → EventAnswer → Type 0
Delivers Names event answer = (i k : ℕ) → event ≡ Deliver i k → answer ≡ Ok Joined → Names k

gains_alike : {Names : ℕ → Type 0} (one other : History) (event : Event) (answer : EventAnswer) (i : ℕ) (h : Harvested) → Alike Names one other → Delivers Names event answer
    → Gains one event answer i h → Gains other event answer i h
gains_alike one other event answer i h a named (inl taken) = inl taken
gains_alike one other event answer i h a named (inr (inl received)) = inr (inl received)
gains_alike one other event answer i h a named (inr (inr (k, event_is, answer_is, c))) = inr (inr (k, event_is, answer_is, (a.carries k h (named i k event_is answer_is)).0 c))

learnt_alike : {Names : ℕ → Type 0} (one other : History) (event : Event) (answer : EventAnswer) (i : ℕ) (h : Harvested) → Alike Names one other → Delivers Names event answer
    → Learnt (one ++ (event, answer) ∷ []) i h → Learnt (other ++ (event, answer) ∷ []) i h
learnt_alike one other event answer i h a named learnt = from (learnt_after one event answer refl learnt)
  where
    from : After one event answer i h → Learnt (other ++ (event, answer) ∷ []) i h
    from (inl (before, still)) = learnt_still event answer ((a.learnt i h).0 before) still
    from (inr gained) = learnt_now other event answer i h (gains_alike one other event answer i h a named gained)

carries_alike : {Names : ℕ → Type 0} (one other : History) (event : Event) (answer : EventAnswer) (k : ℕ) (h : Harvested) → Alike Names one other → Names k
    → Carries (one ++ (event, answer) ∷ []) k h → Carries (other ++ (event, answer) ∷ []) k h
carries_alike one other event answer k h a named c = from (carries_before one event answer k h c)
  where
    from : Carries one k h ⊎ Sends one event answer k h → Carries (other ++ (event, answer) ∷ []) k h
    from (inl before) = carries_still other event answer k h ((a.carries k h named).0 before)
    from (inr s) =
        subst (λ (said : EventAnswer). Carries (other ++ (event, said) ∷ []) k h) (sym s.answer_is) (carries_now other event s.sender k h s.sends ((a.learnt s.sender h).0 s.learnt))

alike_push : {Names : ℕ → Type 0} (one other : History) (event : Event) (answer : EventAnswer) → Alike Names one other → Delivers Names event answer
    → Alike Names (one ++ (event, answer) ∷ []) (other ++ (event, answer) ∷ [])
alike_push one other event answer a named = record {
  learnt = λ i h. (learnt_alike one other event answer i h a named, learnt_alike other one event answer i h (alike_back a) named);
  carries = λ k h name. (carries_alike one other event answer k h a name, carries_alike other one event answer k h (alike_back a) name);
}

alike_append : {Names : ℕ → Type 0} (one other after : History) → Alike Names one other → ((i k : ℕ) → Contains after (Deliver i k, Ok Joined) → Names k) → Alike Names (one ++ after) (other ++ after)
alike_append {Names} one other [] a named =
    subst (λ (l : History). Alike Names l (other ++ [])) (sym (append-nil one)) (subst (λ (l : History). Alike Names one l) (sym (append-nil other)) a)
alike_append {Names} one other ((event, answer) ∷ after) a named =
    let x : Happened = (event, answer) in
    let first : Contains (x ∷ after) x = Contains-append_left (x ∷ []) after x (Contains-push [] x) in
    let delivers : Delivers Names event answer = λ i k event_is answer_is. named i k (subst (λ (y : Happened). Contains (x ∷ after) y) (λ j. (event_is j, answer_is j)) first) in
    let later = alike_append (one ++ x ∷ []) (other ++ x ∷ []) after (alike_push one other event answer a delivers)
    (λ i k at. named i k (Contains-append_right (x ∷ []) after (Deliver i k, Ok Joined) at)) in
    subst (λ (l : History). Alike Names l (other ++ x ∷ after)) (append_assoc one (x ∷ []) after)
    (subst (λ (l : History). Alike Names ((one ++ x ∷ []) ++ after) l) (append_assoc other (x ∷ []) after) later)

-- ---- a message that no delivery names

sent_alike : (before : History) (sending : Event) (k : ℕ) → Alike (λ n. ¬ (n ≡ k)) (before ++ (sending, Ok (Sent k)) ∷ []) before
sent_alike before sending k = record {
  learnt = λ i h. (λ learnt. from i h (learnt_after before sending (Ok (Sent k)) refl learnt), λ learnt. learnt_still sending (Ok (Sent k)) learnt (no_restart i));
  carries = λ n h other. (λ c. old n h other (carries_before before sending (Ok (Sent k)) n h c), λ c. carries_still before sending (Ok (Sent k)) n h c);
}
  where
    no_restart : (i : ℕ) → ¬ IsRestart sending (Ok (Sent k)) i
    no_restart i (event_is, answer_is) = cc

    from : (i : ℕ) (h : Harvested) → After before sending (Ok (Sent k)) i h → Learnt before i h
    from i h (inl (learnt, still)) = learnt
    from i h (inr (inl (event_is, answer_is))) = cc
    from i h (inr (inr (inl (bytes, state, event_is, answer_is, text, at)))) = cc
    from i h (inr (inr (inr (message, event_is, answer_is, c)))) = cc

    old : (n : ℕ) (h : Harvested) → ¬ (n ≡ k) → Carries before n h ⊎ Sends before sending (Ok (Sent k)) n h → Carries before n h
    old n h other (inl c) = c
    old n h other (inr s) = let said : (let answer : EventAnswer = Ok (Sent k) in answer) ≡ Ok (Sent n) = s.answer_is in let is : n ≡ k = cc in absurd (other is)

pub lost_message : (before after : History) (sending : Event) (k : ℕ) → ((i : ℕ) → ¬ Contains after (Deliver i k, Ok Joined))
    → (i : ℕ) (h : Harvested) → Learnt (before ++ (sending, Ok (Sent k)) ∷ after) i h ↔ Learnt (before ++ after) i h
lost_message before after sending k lost i h =
    let x : Happened = (sending, Ok (Sent k)) in
    let both = alike_append (before ++ x ∷ []) before after (sent_alike before sending k) (λ j n at same. lost j (subst (λ (n : ℕ). Contains after (Deliver j n, Ok Joined)) same at)) in
    subst (λ (l : History). Learnt l i h ↔ Learnt (before ++ after) i h) (append_assoc before (x ∷ []) after) (both.learnt i h)

-- ---- a delivery once more

-- what stands in a list stands before this element, is it, or stands behind it
part : {X : Type 0} (before after front back : List X) (x y : X) → before ++ x ∷ after ≡ front ++ y ∷ back
    → ((rest : List X) × (before ≡ front ++ y ∷ rest)) ⊎ ((x ≡ y) ⊎ Contains after y)
part [] after [] back x y is = inr (inl cc)
part [] after (z ∷ front) back x y is =
    let rest : after ≡ front ++ y ∷ back = cc in
    inr (inr (subst (λ (l : List _). Contains l y) (sym rest) (Contains-append_right front (y ∷ back) y (Contains-append_left (y ∷ []) back y (Contains-push [] y)))))
part (z ∷ before) after [] back x y is = inl (before, cc)
part (z ∷ before) after (u ∷ front) back x y is = under (part before after front back x y cc)
  where
    head : z ≡ u
    head = cc

    under : ((rest : List _) × (before ≡ front ++ y ∷ rest)) ⊎ ((x ≡ y) ⊎ Contains after y) → ((rest : List _) × (z ∷ before ≡ u ∷ front ++ y ∷ rest)) ⊎ ((x ≡ y) ⊎ Contains after y)
    under (inl (rest, at)) = inl (rest, λ j. head j ∷ at j)
    under (inr behind) = inr behind

-- the replica of a delivery has learnt all that the message carries
delivered_already : (before between : History) (i k : ℕ) (h : Harvested) → NoRestart between i → ((sending : Event) → ¬ Contains between (sending, Ok (Sent k)))
    → Carries (before ++ (Deliver i k, Ok Joined) ∷ between) k h → Learnt (before ++ (Deliver i k, Ok Joined) ∷ between) i h
delivered_already before between i k h none unsent c = from (part before between c.before c.after y x c.sent)
  where
    x : Happened
    x = (c.sending, Ok (Sent k))

    y : Happened
    y = (Deliver i k, Ok Joined)

    from : ((rest : History) × (before ≡ c.before ++ x ∷ rest)) ⊎ ((y ≡ x) ⊎ Contains between x) → Learnt (before ++ y ∷ between) i h
    from (inl (rest, is)) = through c.before rest between c.sender k c.sending c.sends (ap (λ (l : History). l ++ y ∷ between) is) none c.learnt
    from (inr (inl same)) = let answer_is : (let said : EventAnswer = Ok Joined in said) ≡ Ok (Sent k) = ap (λ (x : Happened). x.1) same in cc
    from (inr (inr behind)) = absurd (unsent c.sending behind)

again_alike : (before between : History) (i k : ℕ) → NoRestart between i → ((sending : Event) → ¬ Contains between (sending, Ok (Sent k)))
    → Alike (λ n. Unit {0}) ((before ++ (Deliver i k, Ok Joined) ∷ between) ++ (Deliver i k, Ok Joined) ∷ []) (before ++ (Deliver i k, Ok Joined) ∷ between)
again_alike before between i k none unsent = record {
  learnt = λ j h. (λ learnt. from j h (learnt_after all (Deliver i k) (Ok Joined) refl learnt), λ learnt. learnt_still (Deliver i k) (Ok Joined) learnt (no_restart j));
  carries = λ n h named. (λ c. old n h (carries_before all (Deliver i k) (Ok Joined) n h c), λ c. carries_still all (Deliver i k) (Ok Joined) n h c);
}
  where
    all : History
    all = before ++ (Deliver i k, Ok Joined) ∷ between

    no_restart : (j : ℕ) → ¬ IsRestart (Deliver i k) (Ok Joined) j
    no_restart j (event_is, answer_is) = cc

    from : (j : ℕ) (h : Harvested) → After all (Deliver i k) (Ok Joined) j h → Learnt all j h
    from j h (inl (learnt, still)) = learnt
    from j h (inr (inl (event_is, answer_is))) = cc
    from j h (inr (inr (inl (bytes, state, event_is, answer_is, text, at)))) = cc
    from j h (inr (inr (inr (n, event_is, answer_is, c)))) =
        let n_is : n ≡ k = cc in
        let j_is : i ≡ j = cc in
        subst (λ (j : ℕ). Learnt all j h) j_is (delivered_already before between i k h none unsent (subst (λ (n : ℕ). Carries all n h) n_is c))

    old : (n : ℕ) (h : Harvested) → Carries all n h ⊎ Sends all (Deliver i k) (Ok Joined) n h → Carries all n h
    old n h (inl c) = c
    old n h (inr s) = let answer_is : (let said : EventAnswer = Ok Joined in said) ≡ Ok (Sent n) = s.answer_is in cc

pub repeated_delivery : (before between after : History) (i k : ℕ) → NoRestart between i → ((sending : Event) → ¬ Contains between (sending, Ok (Sent k)))
    → (j : ℕ) (h : Harvested)
    → Learnt (before ++ (Deliver i k, Ok Joined) ∷ between ++ (Deliver i k, Ok Joined) ∷ after) j h ↔ Learnt (before ++ (Deliver i k, Ok Joined) ∷ between ++ after) j h
repeated_delivery before between after i k none unsent j h =
    let y : Happened = (Deliver i k, Ok Joined) in
    let all : History = before ++ y ∷ between in
    let both = (alike_append (all ++ y ∷ []) all after (again_alike before between i k none unsent) (λ _ _ _. tt)).learnt j h in
    subst (λ (l : History). Learnt l j h ↔ Learnt (all ++ after) j h) (append_assoc all (y ∷ []) after) both

-- ---- two neighbours the other way round

gains_still : (history : History) (other : Event) (said : EventAnswer) (event : Event) (answer : EventAnswer) (i : ℕ) (h : Harvested) → Gains history event answer i h
    → Gains (history ++ (other, said) ∷ []) event answer i h
gains_still history other said event answer i h (inl taken) = inl taken
gains_still history other said event answer i h (inr (inl received)) = inr (inl received)
gains_still history other said event answer i h (inr (inr (k, event_is, answer_is, c))) = inr (inr (k, event_is, answer_is, carries_still history other said k h c))

carries_unsent : (history : History) (event : Event) (answer : EventAnswer) (k : ℕ) (h : Harvested) → IsLocal (event, answer) → Carries (history ++ (event, answer) ∷ []) k h → Carries history k h
carries_unsent history event answer k h local c = from (carries_before history event answer k h c)
  where
    from : Carries history k h ⊎ Sends history event answer k h → Carries history k h
    from (inl before) = before
    from (inr s) =
        let answer_is : answer ≡ Ok (Sent k) = s.answer_is in
        absurd (local.no_send event k (λ j. (event, answer_is j)))

gains_before : (history : History) (other : Event) (said : EventAnswer) (event : Event) (answer : EventAnswer) (i : ℕ) (h : Harvested) → IsLocal (other, said)
    → Gains (history ++ (other, said) ∷ []) event answer i h → Gains history event answer i h
gains_before history other said event answer i h local (inl taken) = inl taken
gains_before history other said event answer i h local (inr (inl received)) = inr (inl received)
gains_before history other said event answer i h local (inr (inr (k, event_is, answer_is, c))) = inr (inr (k, event_is, answer_is, carries_unsent history other said k h local c))

not_restart : (event : Event) (answer : EventAnswer) (i : ℕ) → IsLocal (event, answer) → ¬ IsRestart event answer i
not_restart event answer i local is = local.no_restart i (λ j. (is.0 j, is.1 j))

swapped_learnt : (history : History) (event : Event) (answer : EventAnswer) (other : Event) (said : EventAnswer) (i : ℕ) (h : Harvested) → IsLocal (event, answer) → IsLocal (other, said)
    → Learnt ((history ++ (event, answer) ∷ []) ++ (other, said) ∷ []) i h → Learnt ((history ++ (other, said) ∷ []) ++ (event, answer) ∷ []) i h
swapped_learnt history event answer other said i h one two learnt = last (learnt_after (history ++ (event, answer) ∷ []) other said refl learnt)
  where
    first : After history event answer i h → Learnt ((history ++ (other, said) ∷ []) ++ (event, answer) ∷ []) i h
    first (inl (before, still)) = learnt_still event answer (learnt_still other said before (not_restart other said i two)) (not_restart event answer i one)
    first (inr gained) = learnt_now (history ++ (other, said) ∷ []) event answer i h (gains_still history other said event answer i h gained)

    last : After (history ++ (event, answer) ∷ []) other said i h → Learnt ((history ++ (other, said) ∷ []) ++ (event, answer) ∷ []) i h
    last (inl (before, still)) = first (learnt_after history event answer refl before)
    last (inr gained) = learnt_still event answer (learnt_now history other said i h (gains_before history event answer other said i h one gained)) (not_restart event answer i one)

swapped_carries : (history : History) (event : Event) (answer : EventAnswer) (other : Event) (said : EventAnswer) (k : ℕ) (h : Harvested) → IsLocal (event, answer) → IsLocal (other, said)
    → Carries ((history ++ (event, answer) ∷ []) ++ (other, said) ∷ []) k h → Carries ((history ++ (other, said) ∷ []) ++ (event, answer) ∷ []) k h
swapped_carries history event answer other said k h one two c =
    carries_still (history ++ (other, said) ∷ []) event answer k h
    (carries_still history other said k h (carries_unsent history event answer k h one (carries_unsent (history ++ (event, answer) ∷ []) other said k h two c)))

pub reordered_events : (before after : History) (x y : Happened) → IsLocal x → IsLocal y → (i : ℕ) (h : Harvested)
    → Learnt (before ++ x ∷ y ∷ after) i h ↔ Learnt (before ++ y ∷ x ∷ after) i h
reordered_events before after (event, answer) (other, said) one two i h =
    let x : Happened = (event, answer) in
    let y : Happened = (other, said) in
    let a : Alike (λ n. Unit {0}) ((before ++ x ∷ []) ++ y ∷ []) ((before ++ y ∷ []) ++ x ∷ []) = record {
      learnt = λ j g. (swapped_learnt before event answer other said j g one two, swapped_learnt before other said event answer j g two one);
      carries = λ k g named. (swapped_carries before event answer other said k g one two, swapped_carries before other said event answer k g two one);
    } in
    let both = (alike_append ((before ++ x ∷ []) ++ y ∷ []) ((before ++ y ∷ []) ++ x ∷ []) after a (λ _ _ _. tt)).learnt i h in
    subst (λ (l : History). Learnt l i h ↔ Learnt (before ++ y ∷ x ∷ after) i h) (append_assoc (before ++ x ∷ []) (y ∷ []) after ∙ append_assoc before (x ∷ []) (y ∷ after))
    (subst (λ (l : History). Learnt (((before ++ x ∷ []) ++ y ∷ []) ++ after) i h ↔ Learnt l i h) (append_assoc (before ++ y ∷ []) (x ∷ []) after ∙ append_assoc before (y ∷ []) (x ∷ after)) both)
