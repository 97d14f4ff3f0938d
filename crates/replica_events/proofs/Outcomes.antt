-- Each event has one outcome, and none is without.
use Rattle.std.proofs.Common.{◌≡◌, ℕ, ◌⊎◌, Bool, true, false, List, length, Option, Some, None, Ok, Err, MatchOption, refl, sym, subst, ◌∙◌, inl, inr, arith}
use Rattle.std.specs.FinMap as map
use Rattle.std.proofs.Math.Nat.{lt_of_not-le}
use Rattle.harvest_lattice.specs.Lattice.{Entries}
use Rattle.replica_exchange.specs.declared.cursor.Cursor.{Cursor}
use Rattle.replica_exchange.specs.Stamps.{StampedState}
use Rattle.replica_exchange.specs.CursorRule.{fits}
use Rattle.replica_exchange.proofs.StampLemmas.{one_stamped}
use Rattle.replica_exchange.proofs.StateLemmas.{one_state}
use Rattle.replica_events.specs.declared.event.Event.{Event}
use Rattle.replica_events.specs.declared.event.Event.TheVariants.{Take, Send, SendFrom, Deliver, Receive, Restart, Ask}
use Rattle.replica_events.specs.declared.event.Said.{Said}
use Rattle.replica_events.specs.declared.event.Said.TheVariants.{Taken, Joined}
use Rattle.replica_events.specs.declared.event.Refused.{Refused}
use Rattle.replica_events.specs.declared.event.Refused.TheVariants.{BadState, Gap, NumbersSpent}
use Rattle.replica_events.specs.World as world
use Rattle.replica_events.specs.World.{World, Replica, Message, EventAnswer, Outcome, Effect, Accepts, Refuses, WithStamped, IfWithinLimit, IfNumberLeft}
use Rattle.replica_events.specs.World.{IfText, Merges, Joins, with_replica, after_join, own_cursor, replica, message}
use Rattle.replica_events.specs.World.{last_number}
use Rattle.replica_events.proofs.Stampings.{merges_stamped}

-- ---- at most one

-- a relation holds of one pair at most
abbrev pub Once : {A : Type 0} → (A → World → Type 0) → Type 0
Once {A} P = (a : A) (n : World) (b : A) (m : World) → P a n → P b m → (a ≡ b) × (n ≡ m)

-- of two that exclude each other, each once
pub either_once : {A : Type 0} (P Q : Type 0) (F G : A → World → Type 0) → (P → Q → ⊥) → Once F → Once G → Once (λ a n. (P × F a n) ⊎ (Q × G a n))
either_once P Q F G apart f g a n b m (inl p) (inl q) = f a n b m p.1 q.1
either_once P Q F G apart f g a n b m (inl p) (inr q) = absurd (apart p.0 q.0)
either_once P Q F G apart f g a n b m (inr p) (inl q) = absurd (apart q.0 p.0)
either_once P Q F G apart f g a n b m (inr p) (inr q) = g a n b m p.1 q.1

-- where there is something, and where there is nothing
pub match_once : {A X : Type 0} (o : Option X) (F : A → World → Type 0) (G : X → A → World → Type 0) → Once F → ((x : X) → Once (G x)) → Once (λ a n. MatchOption o (F a n) (λ x. G x a n))
match_once None F G f g a n b m p q = f a n b m p q
match_once (Some x) F G f g a n b m p q = g x a n b m p q

-- the two values are named
pub named_once : {A : Type 0} (x : A) (w : World) → Once (λ a n. (a ≡ x) × (n ≡ w))
named_once x w a n b m p q = (p.0 ∙ sym q.0, p.1 ∙ sym q.1)

-- bytes are the text of one state at most
text_once : (bytes : List ℕ) (F : Entries → EventAnswer → World → Type 0) (G : EventAnswer → World → Type 0) → ((s : Entries) → Once (F s)) → Once G
    → Once (IfText bytes F G)
text_once bytes F G f g a n b m (inl (s, p, x)) (inl (t, q, y)) =
    let same : s ≡ t = one_state bytes s t p.text q.text in
    f t a n b m (subst (λ (s : Entries). F s a n) same x) y
text_once bytes F G f g a n b m (inl (s, p, x)) (inr (none, y)) = absurd (none s p)
text_once bytes F G f g a n b m (inr (none, x)) (inl (t, q, y)) = absurd (none t q)
text_once bytes F G f g a n b m (inr (none, x)) (inr (same, y)) = g a n b m x y

-- merges made one state with stamps
stamped_once : (r : Replica) (F : StampedState → EventAnswer → World → Type 0) → ((s : StampedState) → Once (F s)) → Once (WithStamped r F)
stamped_once r F f a n b m (s, p, own, x) (t, q, other, y) =
    let same : s ≡ t = one_stamped r.merges s t p q (own ∙ sym other) in
    f t a n b m (subst (λ (s : StampedState). F s a n) same x) y

-- a number is left, or none is
left_once : (n : ℕ) (F G : Outcome) → Once F → Once G → Once (IfNumberLeft n F G)
left_once n F G f g = either_once (¬ (n ≡ last_number)) (n ≡ last_number) F G (λ no yes. no yes) f g

merges_once : (w : World) (r : Replica) (said : Said) (next : World) → Once (Merges w r said next)
merges_once w r said next = left_once (length r.merges) (Accepts said next) (Refuses NumbersSpent w) (named_once (Ok said) next) (named_once (Err NumbersSpent) w)

sends_once : (w : World) (i : ℕ) (cursor : Replica → Option Cursor) → Once (world.Sends w i cursor)
sends_once w i cursor = match_once (replica w i) _ _ (named_once _ _) (λ r. stamped_once r _ (λ s. named_once _ _))

differ : (b : Bool) → b ≡ true → b ≡ false → ⊥
differ b holds fails = let both : true ≡ false = sym holds ∙ fails in cc

joins_once : (w : World) (i : ℕ) (r : Replica) (m : Message) → Once (Joins w i r m)
joins_once w i r m =
    either_once _ _ _ _ (λ holds fails. differ (fits (map.get r.cursors m.sender) m.delta) holds fails)
    (merges_once w r Joined (with_replica w i (after_join r m))) (named_once _ _)

-- an event in a world has one answer, and leads to one world
pub effect_once : (base : List ℕ) (w : World) (event : Event) → Once (Effect base w event)
effect_once base w (Take i h) = match_once (replica w i) _ _ (named_once _ _) (λ r. merges_once w r Taken _)
effect_once base w (Send i) = sends_once w i (λ _. None)
effect_once base w (SendFrom i n) = sends_once w i (own_cursor n)
effect_once base w (Deliver i k) =
    match_once (replica w i) _ _ (named_once _ _) (λ r.
    match_once (message w k) _ _ (named_once _ _) (λ m.
    either_once _ _ _ _ (λ few many. omega (arith, few, many)) (joins_once w i r m) (named_once _ _)))
effect_once base w (Receive i bytes) =
    match_once (replica w i) _ _ (named_once _ _) (λ r. text_once bytes _ _ (λ s. merges_once w r Joined _) (named_once _ _))
effect_once base w (Restart i) = match_once (replica w i) _ _ (named_once _ _) (λ r. left_once w.last _ _ (named_once _ _) (named_once _ _))
effect_once base w (Ask i q) = match_once (replica w i) _ _ (named_once _ _) (λ r. stamped_once r _ (λ s. named_once _ _))

-- ---- at least one

-- not each answer and world are refused
abbrev pub Happens : Outcome → Type 0
Happens outcome = ¬ ((answer : EventAnswer) (next : World) → ¬ outcome answer next)

accepts : (said : Said) (next : World) → Happens (Accepts said next)
accepts said next none = none (Ok said) next (refl, refl)

refuses : (why : Refused) (w : World) → Happens (Refuses why w)
refuses why w none = none (Err why) w (refl, refl)

found : {X : Type 0} (o : Option X) (why : Refused) (w : World) (happens : X → Outcome) → ((x : X) → Happens (happens x))
    → Happens (λ answer next. MatchOption o (Refuses why w answer next) (λ x. happens x answer next))
found None why w happens each none = none (Err why) w (refl, refl)
found (Some x) why w happens each none = each x none

-- one of the two stands, where the second does if the first doesn't
either_happens : (P Q : Type 0) (F G : Outcome) → (¬ P → ¬ ¬ Q) → Happens F → Happens G → Happens (λ answer next. (P × F answer next) ⊎ (Q × G answer next))
either_happens P Q F G other f g none =
    let not : ¬ P = λ p. f (λ answer next happens. none answer next (inl (p, happens))) in
    other not (λ q. g (λ answer next happens. none answer next (inr (q, happens))))

within : (bytes : List ℕ) (F G : Outcome) → Happens F → Happens G → Happens (IfWithinLimit bytes F G)
within bytes F G f g = either_happens _ _ F G (λ no out. out (lt_of_not-le no)) f g

left : (n : ℕ) (F G : Outcome) → Happens F → Happens G → Happens (IfNumberLeft n F G)
left n F G f g = either_happens _ _ F G (λ no out. no out) f g

merged : (w : World) (r : Replica) (said : Said) (next : World) → Happens (Merges w r said next)
merged w r said next = left (length r.merges) (Accepts said next) (Refuses NumbersSpent w) (accepts said next) (refuses NumbersSpent w)

text : (bytes : List ℕ) (F : Entries → Outcome) (G : Outcome) → ((s : Entries) → Happens (F s)) → Happens G → Happens (IfText bytes F G)
text bytes F G f g none =
    g (λ answer next happens. none answer next (inr ((λ s is. f s (λ answer next happens. none answer next (inl (s, is, happens)))), happens)))

stamped : (r : Replica) (F : StampedState → Outcome) → ((s : StampedState) → Happens (F s)) → Happens (WithStamped r F)
stamped r F f none =
    let made = merges_stamped r.merges r.incarnation in
    f made.0 (λ answer next happens. none answer next (made.0, made.1, made.2, happens))

true_or_false : (b : Bool) → ¬ (b ≡ true) → ¬ ¬ (b ≡ false)
true_or_false true fails out = fails refl
true_or_false false fails out = out refl

joined : (w : World) (i : ℕ) (r : Replica) (m : Message) → Happens (Joins w i r m)
joined w i r m =
    either_happens _ _ (Merges w r Joined (with_replica w i (after_join r m))) (Refuses (Gap (map.get r.cursors m.sender)) w)
    (true_or_false (fits (map.get r.cursors m.sender) m.delta)) (merged w r Joined (with_replica w i (after_join r m))) (refuses (Gap (map.get r.cursors m.sender)) w)

sent : (w : World) (i : ℕ) (cursor : Replica → Option Cursor) → Happens (world.Sends w i cursor)
sent w i cursor = found (replica w i) _ w _ (λ r. stamped r _ (λ s. accepts _ _))

pub effect_happens : (base : List ℕ) (w : World) (event : Event) → Happens (Effect base w event)
effect_happens base w (Take i h) = found (replica w i) _ w _ (λ r. merged w r _ _)
effect_happens base w (Send i) = sent w i (λ _. None)
effect_happens base w (SendFrom i n) = sent w i (own_cursor n)
effect_happens base w (Deliver i k) =
    found (replica w i) _ w _ (λ r. found (message w k) _ w _ (λ m. within m.bytes (Joins w i r m) (Refuses BadState w) (joined w i r m) (refuses BadState w)))
effect_happens base w (Receive i bytes) = found (replica w i) _ w _ (λ r. text bytes _ (Refuses BadState w) (λ s. merged w r _ _) (refuses BadState w))
effect_happens base w (Restart i) = found (replica w i) _ w _ (λ r. left w.last _ (Refuses NumbersSpent w) (accepts _ _) (refuses NumbersSpent w))
effect_happens base w (Ask i q) = found (replica w i) _ w _ (λ r. stamped r _ (λ s. accepts _ _))
