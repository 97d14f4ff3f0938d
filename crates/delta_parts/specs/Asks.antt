-- Where parts stand: the targets of requests for them.
use Rattle.std.specs.Prelude.{◌≡◌, ℕ, ◌<◌, ◌^◌, List, [], ◌∷◌, ◌++◌, codes, Option, Some, None, IfSome, Ok}
use Rattle.std.specs.Fmt.{decimal}
use Rattle.hex.specs.Hex.{decode_of, encode_lower}
use Rattle.memento_time.specs.Text.{IsArchiveName, IsOriginal}
use Rattle.replica_exchange.specs.declared.cursor.Cursor.{Cursor}
use Rattle.delta_parts.specs.declared.asks.PartAsk.{PartAsk}
use Rattle.delta_parts.specs.declared.asks.PartAsk.TheVariants.{First, Next}
use Rattle.delta_parts.specs.declared.place.Place.{Place}

-- from which cursor the delta goes
abbrev pub cursor_of : PartAsk → Option Cursor
cursor_of (First cursor) = cursor
cursor_of (Next cursor behind) = Some cursor

-- behind which place the part begins
abbrev pub place_of : PartAsk → Option Place
place_of (First cursor) = None
place_of (Next cursor behind) = Some behind

-- `/INCARNATION/NUMBER`
abbrev pub cursor_path : Cursor → List ℕ
cursor_path c = (47 ∷ decimal c.incarnation) ++ (47 ∷ decimal c.number)

-- `/ARCHIVE/HEX`, where HEX is the original's bytes
abbrev pub place_path : List ℕ → List ℕ → List ℕ
place_path archive digits = (47 ∷ archive) ++ (47 ∷ digits)

-- the target of the part
abbrev pub target_of : PartAsk → List ℕ
target_of (First None) = codes "/part"
target_of (First (Some c)) = codes "/part" ++ cursor_path c
target_of (Next c behind) = codes "/part" ++ (cursor_path c ++ place_path behind.archive (encode_lower behind.original))

-- the target names this part: its original in hex, with either case of letters
pub record NamesPlace (target : List ℕ) (c : Cursor) (behind : Place) : Type 0 where
  pub digits : List ℕ
  pub stands : target ≡ codes "/part" ++ (cursor_path c ++ place_path behind.archive digits)
  pub original : decode_of digits ≡ Ok behind.original

abbrev pub Names : List ℕ → PartAsk → Type 0
Names target (First None) = target ≡ codes "/part"
Names target (First (Some c)) = target ≡ codes "/part" ++ cursor_path c
Names target (Next c behind) = NamesPlace target c behind

-- an ask that has a target
abbrev pub IsAsk : PartAsk → Type 0
IsAsk (First cursor) = IfSome cursor (λ c. (c.incarnation < 2 ^ 64) × (c.number < 2 ^ 64))
IsAsk (Next c behind) = ((c.incarnation < 2 ^ 64) × (c.number < 2 ^ 64)) × (IsArchiveName behind.archive × IsOriginal behind.original)
