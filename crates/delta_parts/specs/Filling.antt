-- Which rows fill a part.
use Rattle.std.specs.Prelude.{◌≡◌, ℕ, ◌+◌, List, [], ◌∷◌, ◌++◌, length, All, Option, Some, None}
use Rattle.std.specs.Borrow.{Bor}
use Rattle.std.specs.List.{flat_map, filter}
use Rattle.harvest_lattice.specs.Lattice.{Key, Kept}
use Rattle.harvest_lattice.specs.Rows.{rows_behind}
use Rattle.replica_exchange.specs.StateText.{entry_text, IsEntry}
use Rattle.replica_exchange.specs.Stamps.{StampedState, above}
use Rattle.delta_parts.specs.PartRule.{key_of}
use Rattle.delta_parts.specs.declared.place.Place.{Place}

-- the rows behind a place, or all of them
abbrev pub rows_from : Option Place → List (Key × Kept) → List (Key × Kept)
rows_from None rows = rows
rows_from (Some place) rows = rows_behind (key_of place) rows

-- the key of a row as a walk over a state lends it
abbrev pub lent_key : Option (List ℕ × Bor (List ℕ)) → Option Key
lent_key None = None
lent_key (Some k) = Some (k.0, k.1.now)

-- those of the rows whose stamp is above n
abbrev pub rows_above : StampedState → ℕ → List (Key × Kept) → List (Key × Kept)
rows_above s n rows = filter (above s n) rows

-- the lines of those of the rows, behind others
pub record HasLines (s : StampedState) (n : ℕ) (rows : List (Key × Kept)) (before after : List ℕ) (count more : ℕ) : Type 0 where
  pub text : after ≡ before ++ flat_map entry_text (rows_above s n rows)
  pub fits : All IsEntry (rows_above s n rows)
  pub counted : more ≡ count + length (rows_above s n rows)

-- the rows end with this key
pub record EndsWith (k : Key) (rows : List (Key × Kept)) : Type 0 where
  pub before : List (Key × Kept)
  pub kept : Kept
  pub is : rows ≡ before ++ (k, kept) ∷ []

-- the last of the rows has this key, or there are none
abbrev pub IsLast : Option Key → List (Key × Kept) → Type 0
IsLast None rows = rows ≡ []
IsLast (Some k) rows = EndsWith k rows

-- without a place all rows are in front, and else those up to it
abbrev pub IsCut : Option Place → List (Key × Kept) → List (Key × Kept) → Type 0
IsCut None front rest = rest ≡ []
IsCut (Some place) front rest = EndsWith (key_of place) front

-- these are the lines of the rows in front, up to a place
pub record IsFilled (s : StampedState) (n : ℕ) (rows : List (Key × Kept)) (until : Option Place) (text : List ℕ) (count : ℕ) : Type 0 where
  pub front : List (Key × Kept)
  pub rest : List (Key × Kept)
  pub parts : rows ≡ front ++ rest
  pub lines : HasLines s n front [] text 0 count
  pub cut : IsCut until front rest
