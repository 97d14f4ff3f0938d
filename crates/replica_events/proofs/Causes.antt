-- Refusals have their causes, and causes their refusals.
use Rattle.std.proofs.Common.{◌≡◌, ℕ, ◌+◌, ◌<◌, ◌≤◌, ◌⊎◌, true, false, arith, List, [], ◌∷◌, Option, Some, None, Ok, Err, MatchOption, length, refl, sym, ap, subst, ◌∙◌, inl, inr}
use Rattle.std.specs.Prelude.{◌==◌, nat_le, IfSome}
use Rattle.std.specs.FinMap as map
use Rattle.std.proofs.lemmas.Bool.{false≢true, eqb-true, eq-eqb, leb-true, leb-false, and_parts, and_cases, or_parts, or_cases, false_from_ne_true, true_from_ne_false}
use Rattle.std.proofs.lemmas.Option.{none-some, same_Some}
use Rattle.std.proofs.lemmas.List.{length_push}
use Rattle.memento_index.specs.declared.merge.Merge.TheVariants as merge
use Rattle.replica_exchange.specs.declared.cursor.Cursor.{Cursor}
use Rattle.replica_exchange.specs.declared.delta.Delta.{Delta}
use Rattle.replica_exchange.specs.CursorRule.{delta_from, fits, reaches}
use Rattle.harvest_lattice.specs.Lattice.{Entries}
use Rattle.harvest_lattice.specs.Knowledge.{adds}
use Rattle.replica_events.specs.declared.event.Event.{Event}
use Rattle.replica_events.specs.declared.event.Event.TheVariants.{Take, Send, SendFrom, Deliver, Receive, Restart, Ask}
use Rattle.replica_events.specs.declared.event.Said.{Said}
use Rattle.replica_events.specs.declared.event.Said.TheVariants.{Taken, Sent, Joined, Restarted, Replied}
use Rattle.replica_events.specs.declared.event.Refused.{Refused}
use Rattle.replica_events.specs.declared.event.Refused.TheVariants.{NoReplica, NoMessage, BadState, NoMemory, Gap, NumbersSpent}
use Rattle.replica_events.specs.World.{World, Replica, Message, EventAnswer, Outcome, Effect, Step, Accepts, Refuses, WithMessage, WithStamped}
use Rattle.replica_events.specs.World.{TakesMemory, IfWithinLimit, IfNumberLeft, IfText, Merges, Joins, last_number, with_replica, with_message}
use Rattle.replica_events.specs.World.{after_merge, after_join, sent_by, own_cursor, after_restart, replica_reply, replica, message}
use Rattle.replica_events.specs.Refusals.{IsCause, IsResult, IsDelivered, LeavesGap, replica_of}

-- ---- gaps

past_all : (o : Option Cursor) (d : Delta) → reaches o d ≡ false → IfSome o (λ c. c.incarnation ≡ d.incarnation → c.number < d.start)
past_all None d out = tt
past_all (Some c) d out = λ same. late (and_cases (c.incarnation == d.incarnation) (nat_le d.start c.number) out) same
  where
    late : ((c.incarnation == d.incarnation) ≡ false) ⊎ (nat_le d.start c.number ≡ false) → c.incarnation ≡ d.incarnation → c.number < d.start
    late (inl other) same = absurd (false≢true (sym other ∙ eq-eqb c.incarnation d.incarnation same))
    late (inr less) same = leb-false d.start c.number less

reached_or_past : (o : Option Cursor) (d : Delta) → reaches o d ≡ true → IfSome o (λ c. c.incarnation ≡ d.incarnation → c.number < d.start) → ⊥
reached_or_past None d reached past = false≢true reached
reached_or_past (Some c) d reached past =
    let parts = and_parts (c.incarnation == d.incarnation) (nat_le d.start c.number) reached in
    let less = past (eqb-true c.incarnation d.incarnation parts.0) in
    let more = leb-true d.start c.number parts.1 in
    omega (arith, less, more)

-- a delta that doesn't fit leaves a gap
gap_of_unfit : (held : Option Cursor) (d : Delta) → fits held d ≡ false → LeavesGap held d
gap_of_unfit held d unfit =
    let parts = or_parts (d.start == 0) (reaches held d) unfit in
    (λ first. false≢true (sym parts.0 ∙ eq-eqb d.start 0 first), past_all held d parts.1)

-- and one that fits leaves none
fits_no_gap : (held : Option Cursor) (d : Delta) → fits held d ≡ true → ¬ LeavesGap held d
fits_no_gap held d fit gap = at (or_cases (d.start == 0) (reaches held d) fit)
  where
    at : ((d.start == 0) ≡ true) ⊎ (reaches held d ≡ true) → ⊥
    at (inl first) = gap.0 (eqb-true d.start 0 first)
    at (inr reached) = reached_or_past held d reached gap.1

unfit_of_gap : (held : Option Cursor) (d : Delta) → LeavesGap held d → fits held d ≡ false
unfit_of_gap held d gap = false_from_ne_true (fits held d) (λ fit. fits_no_gap held d fit gap)

fit_without_gap : (held : Option Cursor) (d : Delta) → ¬ LeavesGap held d → fits held d ≡ true
fit_without_gap held d none = true_from_ne_false (fits held d) (λ unfit. none (gap_of_unfit held d unfit))

-- ---- from a refusal to its cause

-- the refusal has its cause, and changed nothing
record IsFair (w : World) (event : Event) (why : Refused) (next : World) : Type 0 where
  pub cause : IsCause w event why
  pub unchanged : next ≡ w

same_refusal : (why other : Refused) → (let answer : EventAnswer = Err why in answer) ≡ Err other → why ≡ other
same_refusal why other is = cc

not_refused : (said : Said) (why : Refused) → (let answer : EventAnswer = Err why in answer) ≡ Ok said → ⊥
not_refused said why is = cc

fair : (w : World) (event : Event) (why other : Refused) (next : World) → Refuses other w (Err why) next → IsCause w event other → IsFair w event why next
fair w event why other next p cause = record { cause = subst (λ (x : Refused). IsCause w event x) (sym (same_refusal why other p.0)) cause; unchanged = p.1 }

fair_at : (w : World) (event : Event) (happens : Replica → Outcome) (why : Refused) (next : World) (o : Option Replica) → replica w (replica_of event) ≡ o
    → MatchOption o (Refuses NoReplica w (Err why) next) (λ r. happens r (Err why) next)
    → ((r : Replica) → replica w (replica_of event) ≡ Some r → happens r (Err why) next → IsFair w event why next) → IsFair w event why next
fair_at w event happens why next None there p found = fair w event why NoReplica next p there
fair_at w event happens why next (Some r) there p found = found r there p

-- where no number is left
fair_left : (w : World) (event : Event) (n : ℕ) (said : Said) (next : World) (why : Refused) (new : World) → IfNumberLeft n (Accepts said next) (Refuses NumbersSpent w) (Err why) new
    → (n ≡ last_number → IsCause w event NumbersSpent) → IsFair w event why new
fair_left w event n said next why new (inl (few, p)) spent = absurd (not_refused said why p.0)
fair_left w event n said next why new (inr (last, p)) spent = fair w event why NumbersSpent new p (spent last)

fair_sending : (w : World) (event : Event) (r : Replica) (cursor : Option Cursor) (why : Refused) (next : World)
    → WithStamped r (λ s. Accepts (Sent (length w.messages + 1)) (with_message w (sent_by (replica_of event) r (delta_from s cursor)))) (Err why) next → IsFair w event why next
fair_sending w event r cursor why next (s, is, own, p) = absurd (not_refused (Sent (length w.messages + 1)) why p.0)

module _ (w : World) (i k : ℕ) (r : Replica) (there : replica w i ≡ Some r) where
  delivered : (m : Message) → message w k ≡ Some m → length m.bytes ≤ 268435456 → IsDelivered w (Deliver i k) r m (map.get r.cursors m.sender)
  delivered m found few = record { there = there; number = k; delivers = refl; found = found; within = few; cursor = refl }

  fair_joining : (m : Message) (why : Refused) (next : World) → message w k ≡ Some m → length m.bytes ≤ 268435456 → Joins w i r m (Err why) next → IsFair w (Deliver i k) why next
  fair_joining m why next found few (inl (fit, p)) =
      let no_gap : ¬ LeavesGap (map.get r.cursors m.sender) m.delta = fits_no_gap (map.get r.cursors m.sender) m.delta fit in
      fair_left w (Deliver i k) (length r.merges) Joined (with_replica w i (after_join r m)) why next p
      (λ last. ((r, there, last), (r, m, map.get r.cursors m.sender, delivered m found few, no_gap)))
  fair_joining m why next found few (inr (gap, p)) =
      fair w (Deliver i k) why (Gap (map.get r.cursors m.sender)) next p (r, m, delivered m found few, gap_of_unfit (map.get r.cursors m.sender) m.delta gap)

  fair_delivery : (why : Refused) (next : World) (o : Option Message) → message w k ≡ o
      → MatchOption o (Refuses NoMessage w (Err why) next) (λ m. IfWithinLimit m.bytes (Joins w i r m) (Refuses BadState w) (Err why) next)
      → IsFair w (Deliver i k) why next
  fair_delivery why next None found p = fair w (Deliver i k) why NoMessage next p ((r, there), (k, refl, found))
  fair_delivery why next (Some m) found (inl (few, p)) = fair_joining m why next found few p
  fair_delivery why next (Some m) found (inr (many, p)) = fair w (Deliver i k) why BadState next p ((r, there), (m, found, many))

fair_receipt : (w : World) (i : ℕ) (bytes : List ℕ) (r : Replica) (after : Entries → World) (why : Refused) (next : World) → replica w i ≡ Some r
    → IfText bytes (λ s. Merges w r Joined (after s)) (Refuses BadState w) (Err why) next → IsFair w (Receive i bytes) why next
fair_receipt w i bytes r after why next there (inl (s, text, p)) =
    fair_left w (Receive i bytes) (length r.merges) Joined (after s) why next p (λ last. ((r, there, last), (s, text.text, text.within)))
fair_receipt w i bytes r after why next there (inr (none, p)) =
    fair w (Receive i bytes) why BadState next p ((r, there), λ s few is. none s (record { text = is; within = few }))

fair_effect : (base : List ℕ) (w : World) (event : Event) (why : Refused) (next : World) → Effect base w event (Err why) next → IsFair w event why next
fair_effect base w (Take i h) why next effect =
    fair_at w (Take i h) (λ r. Merges w r Taken (with_replica w i (after_merge r (h ∷ []) (merge.Harvest h)))) why next (replica w i) refl effect
    (λ r there p. fair_left w (Take i h) (length r.merges) Taken (with_replica w i (after_merge r (h ∷ []) (merge.Harvest h))) why next p (λ last. (r, there, last)))
fair_effect base w (Send i) why next effect =
    fair_at w (Send i) (λ r. WithStamped r (λ s. Accepts (Sent (length w.messages + 1)) (with_message w (sent_by i r (delta_from s None))))) why next (replica w i) refl effect
    (λ r there p. fair_sending w (Send i) r None why next p)
fair_effect base w (SendFrom i n) why next effect =
    fair_at w (SendFrom i n) (λ r. WithStamped r (λ s. Accepts (Sent (length w.messages + 1)) (with_message w (sent_by i r (delta_from s (own_cursor n r)))))) why next (replica w i) refl effect
    (λ r there p. fair_sending w (SendFrom i n) r (own_cursor n r) why next p)
fair_effect base w (Deliver i k) why next effect =
    fair_at w (Deliver i k) (λ r. WithMessage w k (λ m. IfWithinLimit m.bytes (Joins w i r m) (Refuses BadState w))) why next (replica w i) refl effect
    (λ r there p. fair_delivery w i k r there why next (message w k) refl p)
fair_effect base w (Receive i bytes) why next effect =
    fair_at w (Receive i bytes) (λ r. IfText bytes (λ s. Merges w r Joined (with_replica w i (after_merge r (adds s) (merge.State s)))) (Refuses BadState w)) why next (replica w i) refl effect
    (λ r there p. fair_receipt w i bytes r (λ s. with_replica w i (after_merge r (adds s) (merge.State s))) why next there p)
fair_effect base w (Restart i) why next effect =
    fair_at w (Restart i) (λ r. IfNumberLeft w.last (Accepts Restarted (after_restart w i)) (Refuses NumbersSpent w)) why next (replica w i) refl effect
    (λ r there p. fair_left w (Restart i) w.last Restarted (after_restart w i) why next p (λ last. ((r, there), last)))
fair_effect base w (Ask i q) why next effect =
    fair_at w (Ask i q) (λ r. WithStamped r (λ s. Accepts (Replied (replica_reply base r s q)) w)) why next (replica w i) refl effect
    (λ r there p. absurd (not_refused (Replied (replica_reply base r p.0 q)) why p.3.0))

-- memory is refused once all that an event names is there
out_cause : (w : World) (event : Event) → TakesMemory w event → IsCause w event NoMemory
out_cause w (Take i h) there = (there, λ j is. cc)
out_cause w (Send i) there = (there, λ j is. cc)
out_cause w (SendFrom i n) there = (there, λ j is. cc)
out_cause w (Deliver i k) there = (there.0, λ j is. cc)
out_cause w (Receive i bytes) there = (there.0, λ j is. cc)
out_cause w (Restart i) there = absurd there
out_cause w (Ask i q) there = (there, λ j is. cc)

fair_step : (base : List ℕ) (w : World) (event : Event) (why : Refused) (next : World) → Step base w event (Err why) next → IsFair w event why next
fair_step base w event why next (inl effect) = fair_effect base w event why next effect
fair_step base w event why next (inr out) = fair w event why NoMemory next (out.0, out.1) (out_cause w event out.2)

pub refusal_cause : (base : List ℕ) (w : World) (event : Event) (why : Refused) (next : World) → Step base w event (Err why) next → IsCause w event why
refusal_cause base w event why next step = (fair_step base w event why next step).cause

pub refusal_unchanged : (base : List ℕ) (w : World) (event : Event) (why : Refused) (next : World) → Step base w event (Err why) next → next ≡ w
refusal_unchanged base w event why next step = (fair_step base w event why next step).unchanged

-- ---- from a cause to its refusal

no_replica : (base : List ℕ) (w : World) (event : Event) → replica w (replica_of event) ≡ None → Effect base w event (Err NoReplica) w
no_replica base w (Take i h) none = rw none (refl, refl)
no_replica base w (Send i) none = rw none (refl, refl)
no_replica base w (SendFrom i n) none = rw none (refl, refl)
no_replica base w (Deliver i k) none = rw none (refl, refl)
no_replica base w (Receive i bytes) none = rw none (refl, refl)
no_replica base w (Restart i) none = rw none (refl, refl)
no_replica base w (Ask i q) none = rw none (refl, refl)

-- the message that is delivered is the one of the number
delivered_message : (w : World) (i k : ℕ) (r : Replica) (m : Message) (held : Option Cursor) → IsDelivered w (Deliver i k) r m held → message w k ≡ Some m
delivered_message w i k r m held is = ap (λ (n : ℕ). message w n) (same_Some k is.number is.delivers) ∙ is.found

gap_refused : (base : List ℕ) (w : World) (i k : ℕ) (held : Option Cursor) (r : Replica) (m : Message) → IsDelivered w (Deliver i k) r m held → LeavesGap held m.delta
    → Effect base w (Deliver i k) (Err (Gap held)) w
gap_refused base w i k held r m is gap =
    let unfit : fits (map.get r.cursors m.sender) m.delta ≡ false = unfit_of_gap (map.get r.cursors m.sender) m.delta (subst (λ (o : Option Cursor). LeavesGap o m.delta) is.cursor gap) in
    rw is.there (rw (delivered_message w i k r m held is) (inl (is.within, inr (unfit, (ap (λ (o : Option Cursor). Err (Gap o)) is.cursor, refl)))))

spent_refused : (base : List ℕ) (w : World) (i k : ℕ) (held : Option Cursor) (s : Replica) → replica w i ≡ Some s → length s.merges ≡ 18446744073709551615
    → (r : Replica) (m : Message) → IsDelivered w (Deliver i k) r m held → ¬ LeavesGap held m.delta → Effect base w (Deliver i k) (Err NumbersSpent) w
spent_refused base w i k held s here last r m is no_gap =
    let same : s ≡ r = same_Some s r (sym here ∙ is.there) in
    let full : length r.merges ≡ last_number = subst (λ (r : Replica). length r.merges ≡ last_number) same last in
    let fit : fits (map.get r.cursors m.sender) m.delta ≡ true = fit_without_gap (map.get r.cursors m.sender) m.delta (subst (λ (o : Option Cursor). ¬ LeavesGap o m.delta) is.cursor no_gap) in
    rw is.there (rw (delivered_message w i k r m held is) (inl (is.within, inl (fit, inr (full, (refl, refl))))))

pub cause_refused : (base : List ℕ) (w : World) (event : Event) (why : Refused) → IsCause w event why → ¬ (why ≡ NoMemory) → Effect base w event (Err why) w
cause_refused base w event NoReplica none other = no_replica base w event none
cause_refused base w (Take i h) NoMessage ((r, there), (k, is, none)) other = cc
cause_refused base w (Send i) NoMessage ((r, there), (k, is, none)) other = cc
cause_refused base w (SendFrom i n) NoMessage ((r, there), (k, is, none)) other = cc
cause_refused base w (Deliver i n) NoMessage ((r, there), (k, is, none)) other =
    let same : n ≡ k = cc in
    let missing : message w n ≡ None = ap (λ (n : ℕ). message w n) same ∙ none in
    rw there (rw missing (refl, refl))
cause_refused base w (Receive i bytes) NoMessage ((r, there), (k, is, none)) other = cc
cause_refused base w (Restart i) NoMessage ((r, there), (k, is, none)) other = cc
cause_refused base w (Ask i q) NoMessage ((r, there), (k, is, none)) other = cc
cause_refused base w (Take i h) BadState ((r, there), bad) other = absurd bad
cause_refused base w (Send i) BadState ((r, there), bad) other = absurd bad
cause_refused base w (SendFrom i n) BadState ((r, there), bad) other = absurd bad
cause_refused base w (Deliver i k) BadState ((r, there), (m, found, many)) other = rw there (rw found (inr (many, (refl, refl))))
cause_refused base w (Receive i bytes) BadState ((r, there), none) other = rw there (inr ((λ s text. none s text.within text.text), (refl, refl)))
cause_refused base w (Restart i) BadState ((r, there), bad) other = absurd bad
cause_refused base w (Ask i q) BadState ((r, there), bad) other = absurd bad
cause_refused base w (Take i h) (Gap held) (r, m, is, gap) other = absurd (none-some is.number is.delivers)
cause_refused base w (Send i) (Gap held) (r, m, is, gap) other = absurd (none-some is.number is.delivers)
cause_refused base w (SendFrom i n) (Gap held) (r, m, is, gap) other = absurd (none-some is.number is.delivers)
cause_refused base w (Deliver i k) (Gap held) (r, m, is, gap) other = gap_refused base w i k held r m is gap
cause_refused base w (Receive i bytes) (Gap held) (r, m, is, gap) other = absurd (none-some is.number is.delivers)
cause_refused base w (Restart i) (Gap held) (r, m, is, gap) other = absurd (none-some is.number is.delivers)
cause_refused base w (Ask i q) (Gap held) (r, m, is, gap) other = absurd (none-some is.number is.delivers)
cause_refused base w (Take i h) NumbersSpent (r, there, last) other = rw there (inr (last, (refl, refl)))
cause_refused base w (Send i) NumbersSpent spent other = absurd spent
cause_refused base w (SendFrom i n) NumbersSpent spent other = absurd spent
cause_refused base w (Deliver i k) NumbersSpent ((s, here, last), (r, m, held, is, no_gap)) other = spent_refused base w i k held s here last r m is no_gap
cause_refused base w (Receive i bytes) NumbersSpent ((r, there, last), (s, text, few)) other =
    rw there (inl (s, record { text = text; within = few }, inr (last, (refl, refl))))
cause_refused base w (Restart i) NumbersSpent ((r, there), last) other = rw there (inr (last, (refl, refl)))
cause_refused base w (Ask i q) NumbersSpent spent other = absurd spent
cause_refused base w event NoMemory cause other = absurd (other refl)

-- ---- results

same_result : (said other : Said) → (let answer : EventAnswer = Ok said in answer) ≡ Ok other → said ≡ other
same_result said other is = cc

not_accepted : (said : Said) (why : Refused) → (let answer : EventAnswer = Ok said in answer) ≡ Err why → ⊥
not_accepted said why is = cc

accepted_at : (w : World) (event : Event) (happens : Replica → Outcome) (said : Said) (next : World) (o : Option Replica)
    → MatchOption o (Refuses NoReplica w (Ok said) next) (λ r. happens r (Ok said) next) → ((r : Replica) → happens r (Ok said) next → IsResult w event said next)
    → IsResult w event said next
accepted_at w event happens said next None p found = absurd (not_accepted said NoReplica p.0)
accepted_at w event happens said next (Some r) p found = found r p

left_result : (n : ℕ) (same : Said) (w next : World) (said : Said) (new : World) → IfNumberLeft n (Accepts same next) (Refuses NumbersSpent w) (Ok said) new → said ≡ same
left_result n same w next said new (inl (few, p)) = same_result said same p.0
left_result n same w next said new (inr (last, p)) = absurd (not_accepted said NumbersSpent p.0)

joining_result : (w : World) (i : ℕ) (r : Replica) (m : Message) (said : Said) (next : World) → Joins w i r m (Ok said) next → said ≡ Joined
joining_result w i r m said next (inl (fit, p)) = left_result (length r.merges) Joined w (with_replica w i (after_join r m)) said next p
joining_result w i r m said next (inr (gap, p)) = absurd (not_accepted said (Gap (map.get r.cursors m.sender)) p.0)

delivery_result : (w : World) (i : ℕ) (r : Replica) (said : Said) (next : World) (o : Option Message)
    → MatchOption o (Refuses NoMessage w (Ok said) next) (λ m. IfWithinLimit m.bytes (Joins w i r m) (Refuses BadState w) (Ok said) next) → said ≡ Joined
delivery_result w i r said next None p = absurd (not_accepted said NoMessage p.0)
delivery_result w i r said next (Some m) (inl (few, p)) = joining_result w i r m said next p
delivery_result w i r said next (Some m) (inr (many, p)) = absurd (not_accepted said BadState p.0)

receipt_result : (w : World) (bytes : List ℕ) (r : Replica) (after : Entries → World) (said : Said) (next : World)
    → IfText bytes (λ s. Merges w r Joined (after s)) (Refuses BadState w) (Ok said) next → said ≡ Joined
receipt_result w bytes r after said next (inl (s, text, p)) = left_result (length r.merges) Joined w (after s) said next p
receipt_result w bytes r after said next (inr (none, p)) = absurd (not_accepted said BadState p.0)

-- a message that is sent is the last of the world
abbrev IsLastSent : World → Said → World → Type 0
IsLastSent w said next = (said ≡ Sent (length next.messages)) × (length next.messages ≡ length w.messages + 1)

sending_result : (w : World) (i : ℕ) (r : Replica) (cursor : Option Cursor) (said : Said) (next : World)
    → WithStamped r (λ s. Accepts (Sent (length w.messages + 1)) (with_message w (sent_by i r (delta_from s cursor)))) (Ok said) next → IsLastSent w said next
sending_result w i r cursor said next (s, is, own, p) =
    let more : length next.messages ≡ length w.messages + 1 = ap (λ (w : World). length w.messages) p.1 ∙ length_push w.messages (sent_by i r (delta_from s cursor)) in
    (same_result said (Sent (length w.messages + 1)) p.0 ∙ ap (λ (n : ℕ). Sent n) (sym more), more)

effect_result : (base : List ℕ) (w : World) (event : Event) (said : Said) (next : World) → Effect base w event (Ok said) next → IsResult w event said next
effect_result base w (Take i h) said next effect =
    accepted_at w (Take i h) (λ r. Merges w r Taken (with_replica w i (after_merge r (h ∷ []) (merge.Harvest h)))) said next (replica w i) effect
    (λ r p. left_result (length r.merges) Taken w (with_replica w i (after_merge r (h ∷ []) (merge.Harvest h))) said next p)
effect_result base w (Send i) said next effect =
    accepted_at w (Send i) (λ r. WithStamped r (λ s. Accepts (Sent (length w.messages + 1)) (with_message w (sent_by i r (delta_from s None))))) said next (replica w i) effect
    (λ r p. sending_result w i r None said next p)
effect_result base w (SendFrom i n) said next effect =
    accepted_at w (SendFrom i n) (λ r. WithStamped r (λ s. Accepts (Sent (length w.messages + 1)) (with_message w (sent_by i r (delta_from s (own_cursor n r)))))) said next (replica w i) effect
    (λ r p. sending_result w i r (own_cursor n r) said next p)
effect_result base w (Deliver i k) said next effect =
    accepted_at w (Deliver i k) (λ r. WithMessage w k (λ m. IfWithinLimit m.bytes (Joins w i r m) (Refuses BadState w))) said next (replica w i) effect
    (λ r p. delivery_result w i r said next (message w k) p)
effect_result base w (Receive i bytes) said next effect =
    accepted_at w (Receive i bytes) (λ r. IfText bytes (λ s. Merges w r Joined (with_replica w i (after_merge r (adds s) (merge.State s)))) (Refuses BadState w)) said next (replica w i) effect
    (λ r p. receipt_result w bytes r (λ s. with_replica w i (after_merge r (adds s) (merge.State s))) said next p)
effect_result base w (Restart i) said next effect =
    accepted_at w (Restart i) (λ r. IfNumberLeft w.last (Accepts Restarted (after_restart w i)) (Refuses NumbersSpent w)) said next (replica w i) effect
    (λ r p. left_result w.last Restarted w (after_restart w i) said next p)
effect_result base w (Ask i q) said next effect =
    accepted_at w (Ask i q) (λ r. WithStamped r (λ s. Accepts (Replied (replica_reply base r s q)) w)) said next (replica w i) effect
    (λ r p. ((replica_reply base r p.0 q, same_result said (Replied (replica_reply base r p.0 q)) p.3.0), p.3.1))

pub accepted_result : (base : List ℕ) (w : World) (event : Event) (said : Said) (next : World) → Step base w event (Ok said) next → IsResult w event said next
accepted_result base w event said next (inl effect) = effect_result base w event said next effect
accepted_result base w event said next (inr out) = absurd (not_accepted said NoMemory out.0)
