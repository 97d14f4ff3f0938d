-- How young what is known of an original is, and the second from which on as much is known as may be kept.
use Rattle.std.specs.Prelude.{◌≡◌, ◌⊎◌, ℕ, ◌-◌, ◌^◌, Bool, true, false, ◌&&◌, nat_le, List, Option, Some, None, bytes_eq, slice_get}
use Rattle.std.specs.List.{list_any}
use Rattle.std.specs.FinMap as map
use Rattle.original_sets.specs.Sets.{stands}
use Rattle.harvest_lattice.specs.Lattice.{Kept, Entries}

-- the greatest revision, which stands last
abbrev pub newest : Kept → Option ℕ
newest kept = slice_get (map.keys kept.revisions) (map.len kept.revisions - 1)

-- there is a second, and it isn't before the floor
abbrev pub is_from : ℕ → Option ℕ → Bool
is_from floor None = false
is_from floor (Some second) = nat_le floor second

-- an entry of the original has a revision that isn't before the floor
abbrev pub is_young : ℕ → Entries → List ℕ → Bool
is_young floor x original = list_any (λ e. bytes_eq e.0.1 original && is_from floor (newest e.1)) (map.entries x)

-- all of the first are in the second
abbrev pub AreAmong : List (List ℕ) → List (List ℕ) → Type 0
AreAmong some all = (original : List ℕ) → stands some original ≡ true → stands all original ≡ true

-- each original that is young stands in the set
abbrev pub AllYoung : ℕ → Entries → List (List ℕ) → Type 0
AllYoung floor x originals = (original : List ℕ) → is_young floor x original ≡ true → stands originals original ≡ true

-- so it is, unless the floor is the greatest second there can be
abbrev pub AreYoung : ℕ → Entries → List (List ℕ) → Type 0
AreYoung floor x originals = (floor ≡ 2 ^ 64 - 1) ⊎ AllYoung floor x originals
