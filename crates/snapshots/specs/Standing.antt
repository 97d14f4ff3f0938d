-- How far a snapshot is written.
use Rattle.std.specs.Prelude.{◌≡◌, ℕ, ◌≤◌, ◌<◌, ◌^◌, List, [], ◌∷◌, ◌++◌, length, map as map_list, Option, codes, All}
use Rattle.std.specs.List.{flat_map, AllByRecursion}
use Rattle.std.specs.Io.KnownBytes.{Appends}
use Rattle.harvest_lattice.specs.Lattice.{Key, Kept}
use Rattle.replica_exchange.specs.StateText.{entry_text, entries_text, line, IsEntry, AreEntries}
use Rattle.replica_exchange.specs.Faults.{longest_text}
use Rattle.snapshot_sections.specs.Sections.{first_line, section_text, snapshot_text}
use Rattle.snapshot_sections.specs.Writing.{AppendsLess}
use Rattle.snapshots.specs.Cuts.{entries_joined}
use Rattle.snapshots.specs.Snapshots.{longest_body, IsShort}

-- the text of the state of these entries, if they stand in order
abbrev pub text_of : List (Key × Kept) → List ℕ
text_of es = line (codes "memento-state" ∷ codes "2" ∷ []) ++ entries_text es

-- entries whose text can be written, and is short enough to be read again
pub record IsPart (es : List (Key × Kept)) : Type 0 where
  pub entries : AreEntries es
  pub short : length (text_of es) ≤ longest_text

-- the entries so far stand in sections that are written, and in one that is still open
pub record Stands (start now : Option (List ℕ)) (body : List ℕ) (entries sections : ℕ) (done : List (Key × Kept)) : Type 0 where
  pub parts : List (List (Key × Kept))
  pub rest : List (Key × Kept)
  pub all : entries_joined parts ++ rest ≡ done
  pub fit : AllByRecursion IsPart parts
  pub written : Appends start now (first_line ++ flat_map section_text (map_list text_of parts))
  pub counted : sections ≡ length parts
  pub few : sections < 2 ^ 64
  pub body_is : body ≡ flat_map entry_text rest
  pub entries_are : entries ≡ length rest
  pub rest_fits : All IsEntry rest
  pub short : length body ≤ longest_body
  pub each_short : All IsShort done

-- all entries stand in sections, and the last line is written
pub record Ended (start now : Option (List ℕ)) (done : List (Key × Kept)) : Type 0 where
  pub parts : List (List (Key × Kept))
  pub all : entries_joined parts ≡ done
  pub fit : AllByRecursion IsPart parts
  pub few : length parts < 2 ^ 64
  pub written : Appends start now (snapshot_text (map_list text_of parts))
  pub each_short : All IsShort done

-- a beginning of a snapshot of the first of these entries is written, and not the whole
pub record Begun (start now : Option (List ℕ)) (done : List (Key × Kept)) : Type 0 where
  pub parts : List (List (Key × Kept))
  pub rest : List (Key × Kept)
  pub all : entries_joined parts ++ rest ≡ done
  pub fit : AllByRecursion IsPart parts
  pub few : length parts < 2 ^ 64
  pub less : AppendsLess start now (snapshot_text (map_list text_of parts))
