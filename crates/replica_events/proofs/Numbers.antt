-- Replicas and messages by their numbers, once one of them is new.
use Rattle.std.proofs.Common.{◌≡◌, ℕ, zero, suc, ◌+◌, ◌≤◌, ◌⊎◌, List, [], ◌∷◌, ◌++◌, length, Some, slice_get, slice_set, refl, ap, subst, inl, inr, arith}
use Rattle.replica_events.specs.World.{World, Replica, at_number, replica, with_replica}

-- ---- places

-- the element of the new one's number is the new one, and each other is as it was
abbrev Placed : {X : Type 0} → List X → ℕ → X → ℕ → X → Type 0
Placed xs p new q x = ((q ≡ p) × (x ≡ new)) ⊎ (¬ (q ≡ p) × (slice_get xs q ≡ Some x))

placed_under : {X : Type 0} (y : X) (xs : List X) (p : ℕ) (new : X) (q : ℕ) (x : X) → Placed xs p new q x → Placed (y ∷ xs) (suc p) new (suc q) x
placed_under y xs p new q x (inl (same, is)) = inl (ap suc same, is)
placed_under y xs p new q x (inr (other, is)) = inr (λ same. other (omega (arith, same)), is)

placed : {X : Type 0} (xs : List X) (p : ℕ) (old new : X) (q : ℕ) (x : X) → slice_get xs p ≡ Some old → slice_get (slice_set xs p new) q ≡ Some x → Placed xs p new q x
placed [] p old new q x there is = cc
placed (y ∷ xs) zero old new zero x there is = inl (refl, cc)
placed (y ∷ xs) zero old new (suc q) x there is = inr (λ same. omega (arith, same), is)
placed (y ∷ xs) (suc p) old new zero x there is = inr (λ same. omega (arith, same), is)
placed (y ∷ xs) (suc p) old new (suc q) x there is = placed_under y xs p new q x (placed xs p old new q x there is)

-- the replica of the new one's number is the new one, and each other is as it was
abbrev pub IsPlaced : World → ℕ → Replica → ℕ → Replica → Type 0
IsPlaced w i new j r = ((j ≡ i) × (r ≡ new)) ⊎ (¬ (j ≡ i) × (replica w j ≡ Some r))

numbers_placed : (w : World) (p : ℕ) (new : Replica) (q : ℕ) (r : Replica) → Placed w.replicas p new q r → IsPlaced w (suc p) new (suc q) r
numbers_placed w p new q r (inl (same, is)) = inl (ap suc same, is)
numbers_placed w p new q r (inr (other, is)) = inr (λ same. other (omega (arith, same)), is)

pub replica_placed : (w : World) (i : ℕ) (old new : Replica) (j : ℕ) (r : Replica) → replica w i ≡ Some old → replica (with_replica w i new) j ≡ Some r → IsPlaced w i new j r
replica_placed w zero old new j r there is = cc
replica_placed w (suc p) old new zero r there is = cc
replica_placed w (suc p) old new (suc q) r there is = numbers_placed w p new q r (placed w.replicas p old new q r there is)

pub messages_stay : (w : World) (i : ℕ) (r : Replica) → (with_replica w i r).messages ≡ w.messages
messages_stay w zero r = refl
messages_stay w (suc p) r = refl

-- the element is the last one, or had the number before
abbrev pub Pushed : {X : Type 0} → List X → X → ℕ → X → Type 0
Pushed xs last k x = ((k ≡ length xs + 1) × (x ≡ last)) ⊎ ((k ≤ length xs) × (at_number xs k ≡ Some x))

get_pushed : {X : Type 0} (xs : List X) (last : X) (place : ℕ) (x : X) → slice_get (xs ++ last ∷ []) place ≡ Some x
    → ((place ≡ length xs) × (x ≡ last)) ⊎ ((suc place ≤ length xs) × (slice_get xs place ≡ Some x))
get_pushed [] last zero x is = inl (refl, cc)
get_pushed [] last (suc place) x is = cc
get_pushed (y ∷ xs) last zero x is = inr (omega arith, is)
get_pushed (y ∷ xs) last (suc place) x is = under (get_pushed xs last place x is)
  where
    under : ((place ≡ length xs) × (x ≡ last)) ⊎ ((suc place ≤ length xs) × (slice_get xs place ≡ Some x))
        → ((suc place ≡ suc (length xs)) × (x ≡ last)) ⊎ ((suc (suc place) ≤ suc (length xs)) × (slice_get xs place ≡ Some x))
    under (inl (at, last_is)) = inl (ap suc at, last_is)
    under (inr (within, there)) = inr (omega (arith, within), there)

pub pushed : {X : Type 0} (xs : List X) (last : X) (k : ℕ) (x : X) → at_number (xs ++ last ∷ []) k ≡ Some x → Pushed xs last k x
pushed xs last zero x is = cc
pushed xs last (suc place) x is = numbers (get_pushed xs last place x is)
  where
    numbers : ((place ≡ length xs) × (x ≡ last)) ⊎ ((suc place ≤ length xs) × (slice_get xs place ≡ Some x)) → Pushed xs last (suc place) x
    numbers (inl (at, last_is)) = inl (omega (arith, at), last_is)
    numbers (inr (within, there)) = inr (within, there)

get_push : {X : Type 0} (xs : List X) (last : X) (place : ℕ) (x : X) → slice_get xs place ≡ Some x → slice_get (xs ++ last ∷ []) place ≡ Some x
get_push [] last place x is = cc
get_push (y ∷ xs) last zero x is = is
get_push (y ∷ xs) last (suc place) x is = get_push xs last place x is

-- the others keep their numbers, and the last one has the next
pub numbered_push : {X : Type 0} (xs : List X) (last : X) (k : ℕ) (x : X) → at_number xs k ≡ Some x → at_number (xs ++ last ∷ []) k ≡ Some x
numbered_push xs last zero x is = is
numbered_push xs last (suc place) x is = get_push xs last place x is

get_last : {X : Type 0} (xs : List X) (last : X) → slice_get (xs ++ last ∷ []) (length xs) ≡ Some last
get_last [] last = refl
get_last (y ∷ xs) last = get_last xs last

pub numbered_last : {X : Type 0} (xs : List X) (last : X) → at_number (xs ++ last ∷ []) (length xs + 1) ≡ Some last
numbered_last xs last = let next : suc (length xs) ≡ length xs + 1 = omega arith in subst (λ (k : ℕ). at_number (xs ++ last ∷ []) k ≡ Some last) next (get_last xs last)

pub last_stays : (w : World) (i : ℕ) (r : Replica) → (with_replica w i r).last ≡ w.last
last_stays w zero r = refl
last_stays w (suc p) r = refl
