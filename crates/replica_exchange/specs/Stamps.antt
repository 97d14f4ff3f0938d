-- Lists of merges, and from which merge on each entry is as it is.
use Rattle.std.specs.Coded.{Coded, code_by, coded×, coded_ℕ}
use Rattle.std.specs.Prelude.{◌≡◌, refl, ◌⊎◌, ◌+◌, ℕ, ◌≤◌, Bool, false, nat_lt, List, length, take, Option, Some, None}
use Rattle.std.specs.Prelude.{IsSome, MatchOption}
use Rattle.std.specs.List.{flat_map}
use Rattle.std.specs.FinMap as map
use Rattle.memento_index.specs.declared.merge.Merge.{Merge}
use Rattle.harvest_lattice.specs.Lattice.{Key, key_cmp, Kept, Entries, join, coded_key, coded_kept}
use Rattle.harvest_lattice.specs.Knowledge.{lat}
use Rattle.memento_index.specs.Merges.{adds_of}

-- the state of all that merges add
abbrev pub state_after : List Merge → Entries
state_after merges = lat (flat_map adds_of merges)

-- what is kept at a key after the first n of them
abbrev pub kept_after : List Merge → ℕ → Key → Option Kept
kept_after merges n k = map.get (state_after (take n merges)) k

-- from the first n merges on, the key's entry is as it is after all of them
abbrev pub IsSettled : List Merge → ℕ → Key → Type 0
IsSettled merges n k = (more : ℕ) → n ≤ more → kept_after merges more k ≡ map.get (state_after merges) k

-- the length of the shortest prefix of the merges from which on the key's entry is as it is after all of them
pub record IsStamp (merges : List Merge) (k : Key) (n : ℕ) : Type 0 where
  pub settled : IsSettled merges n k
  pub shortest : (other : ℕ) → IsSettled merges other k → n ≤ other

-- the stamp of each key that has one
abbrev pub Stamps : Type 0
Stamps = map.FinMap key_cmp ℕ

-- a state with the stamp of each of its entries, the number of merges that made it, and the incarnation in which it
-- took them
pub record StampedState : Type 0 where
  pub entries : Entries
  pub stamps : Stamps
  pub number : ℕ
  pub incarnation : ℕ

-- the key has this stamp and an entry, or neither
abbrev pub IsStampAt : List Merge → Entries → Key → Option ℕ → Type 0
IsStampAt merges entries k stamp =
    MatchOption stamp (map.get entries k ≡ None) (λ n. IsSome (map.get entries k) × IsStamp merges k n)

-- it is what these merges made: their state, the stamps of its entries, and how many they are
pub record IsStamped (merges : List Merge) (s : StampedState) : Type 0 where
  pub entries : s.entries ≡ state_after merges
  pub stamps : (k : Key) → IsStampAt merges s.entries k (map.get s.stamps k)
  pub number : s.number ≡ length merges

-- the stamp is above n
abbrev pub is_above : ℕ → Option ℕ → Bool
is_above n None = false
is_above n (Some stamp) = nat_lt n stamp

-- the entry's stamp is above n
abbrev pub above : StampedState → ℕ → Key × Kept → Bool
above s n e = is_above n (map.get s.stamps e.0)

-- the entries with a stamp above n
abbrev pub entries_above : StampedState → ℕ → Entries
entries_above s n = map.retain_keys s.entries (λ k. is_above n (map.get s.stamps k))

-- at a key that a merge changes the stamp is the new number, and at another it stays
abbrev pub IsRestamped : StampedState → StampedState → Key → Type 0
IsRestamped s t k =
    ((map.get t.entries k ≡ map.get s.entries k) × (map.get t.stamps k ≡ map.get s.stamps k))
    ⊎ ((¬ (map.get t.entries k ≡ map.get s.entries k)) × (map.get t.stamps k ≡ Some t.number))

-- a state with stamps once it has absorbed one merge more
pub record IsAbsorbed (s : StampedState) (m : Merge) (t : StampedState) : Type 0 where
  pub entries : t.entries ≡ join s.entries (lat (adds_of m))
  pub stamps : (k : Key) → IsRestamped s t k
  pub number : t.number ≡ s.number + 1
  pub incarnation : t.incarnation ≡ s.incarnation

-- a state with stamps as a tuple of its parts
abbrev pub coded_stamped : Coded StampedState
coded_stamped =
    code_by (Entries × (Stamps × (ℕ × ℕ)))
    (coded× (map.code coded_key coded_kept) (coded× (map.code coded_key coded_ℕ) (coded× coded_ℕ coded_ℕ)))
    (λ s. (s.entries, (s.stamps, (s.number, s.incarnation))))
    (λ p. record { entries = p.0; stamps = p.1.0; number = p.1.1.0; incarnation = p.1.1.1 }) (λ _. refl)
