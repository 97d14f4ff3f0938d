-- Keys in the order in which they got their stamps, and what is above a stamp.
use Rattle.std.specs.Prelude.{◌≡◌, ◌==◌, ℕ, ◌<◌, ◌≤◌, Bool, true, false, cond, nat_le, List, [], ◌∷◌, map as map_list, Option, Some, None}
use Rattle.std.specs.Arc.{arc_value}
use Rattle.std.specs.List.{All, Contains}
use Rattle.std.specs.List.Sorted.{IsNonDecreasingBy}
use Rattle.std.specs.FinMap as map
use Rattle.harvest_lattice.specs.Lattice.{Key, Kept}
use Rattle.replica_exchange.specs.Stamps.{StampedState, is_above}
use Rattle.replica_exchange.specs.StampShelves.{Shelves, stamp_in, slot, key_of}
use Rattle.replica_exchange.specs.declared.order.OrderRow.{OrderRow}
use Rattle.replica_exchange.specs.declared.order.StampOrder.{StampOrder}
use Rattle.replica_exchange.specs.declared.stamps.ChangedKey.{ChangedKey}

-- the stamp of a row, and the key that got it
abbrev pub stamp_and_key : OrderRow → ℕ × Key
stamp_and_key row = (row.stamp, (arc_value row.archive, row.original))

-- the stamp that a changed key gets
abbrev pub given_at : ℕ → ChangedKey → ℕ × Key
given_at stamp key = (stamp, key_of key)

-- the rows in order
abbrev pub order_of : StampOrder → List (ℕ × Key)
order_of order = map_list stamp_and_key order.rows.items

-- the row's stamp is not above this one
abbrev pub is_until : ℕ → OrderRow → Bool
is_until stamp row = nat_le row.stamp stamp

-- it is this stamp
abbrev pub is_stamp : ℕ → Option ℕ → Bool
is_stamp stamp None = false
is_stamp stamp (Some other) = other == stamp

-- the row of a key that has a stamp
abbrev pub row_with : Key → Option ℕ → List (ℕ × Key)
row_with k None = []
row_with k (Some stamp) = (stamp, k) ∷ []

-- each key that has a stamp stands there with it, and no other stamp does
pub record AreStanding (shelves : Shelves) (rows : List (ℕ × Key)) : Type 0 where
  pub listed : (k : Key) (stamp : ℕ) → stamp_in (slot shelves k) ≡ Some stamp → Contains rows (stamp, k)
  pub stand : All (λ (row : ℕ × Key). stamp_in (slot shelves row.1) ≡ Some row.0) rows

-- each key that has a stamp stands there with it, and stamps rise up to the number
pub record IsOrderOf (shelves : Shelves) (rows : List (ℕ × Key)) (number : ℕ) : Type 0 where
  pub listed : (k : Key) (stamp : ℕ) → stamp_in (slot shelves k) ≡ Some stamp → Contains rows (stamp, k)
  pub rises : IsNonDecreasingBy (λ (row : ℕ × Key). row.0) rows
  pub within : All (λ (row : ℕ × Key). row.0 ≤ number) rows

-- these rows have stamps above this one, and all such are here
pub record IsBehind (stamp : ℕ) (rows behind : List (ℕ × Key)) : Type 0 where
  pub above : All (λ (row : ℕ × Key). stamp < row.0) behind
  pub all : (row : ℕ × Key) → stamp < row.0 → Contains rows row → Contains behind row

-- these are the entries whose stamp is above the start, in any order and maybe several times
pub record AreAbove (s : StampedState) (start : ℕ) (es : List (Key × Kept)) : Type 0 where
  pub only : All (λ (e : Key × Kept). (is_above start (map.get s.stamps e.0) ≡ true) × (map.get s.entries e.0 ≡ Some e.1)) es
  pub all : (k : Key) (entry : Kept) → is_above start (map.get s.stamps k) ≡ true → map.get s.entries k ≡ Some entry → Contains es (k, entry)

-- the entry of the row's key, if the key still has the stamp
abbrev pub entry_with : Key → Option Kept → List (Key × Kept)
entry_with k None = []
entry_with k (Some entry) = (k, entry) ∷ []

abbrev pub standing_entry : StampedState → ℕ × Key → List (Key × Kept)
standing_entry s row = cond (is_stamp row.0 (map.get s.stamps row.1)) (entry_with row.1 (map.get s.entries row.1)) []
