-- The bytes of a snapshot of a state.
use Rattle.std.specs.Prelude.{◌≡◌, ⊤, ℕ, ◌≤◌, ◌<◌, ◌^◌, List, [], ◌∷◌, ◌++◌, length, map as map_list, Option}
use Rattle.std.specs.List.{AllByRecursion}
use Rattle.std.specs.FinMap as map
use Rattle.std.specs.Io.KnownBytes.{Appends}
use Rattle.harvest_lattice.specs.Lattice.{Key, Kept, Entries}
use Rattle.replica_exchange.specs.StateText.{entry_text, state_text, IsState, IsTextOf}
use Rattle.replica_exchange.specs.Faults.{longest_text}
use Rattle.snapshot_sections.specs.Sections.{snapshot_text, AreSections}
use Rattle.snapshot_sections.specs.Writing.{AppendsLess}
use Rattle.snapshots.specs.Cuts.{IsCut}

-- its text can be written, and is short enough to be read again
pub record IsReadable (x : Entries) : Type 0 where
  pub state : IsState x
  pub short : length (state_text x) ≤ longest_text

-- the bytes are a snapshot of the state: the texts of states into which it is cut, each short enough to be read
pub record IsSnapshotOf (bytes : List ℕ) (x : Entries) : Type 0 where
  pub states : List Entries
  pub cut : IsCut x states
  pub readable : AllByRecursion IsReadable states
  pub few : length states < 2 ^ 64
  pub bytes_are : bytes ≡ snapshot_text (map_list state_text states)

-- the bytes are no state's snapshot
abbrev pub IsNoSnapshot : List ℕ → Type 0
IsNoSnapshot bytes = (x : Entries) → ¬ IsSnapshotOf bytes x

-- the most bytes of the entries of a section, and of one entry
abbrev pub longest_body : ℕ
longest_body = 268435400

-- the entry's lines fit into a section
abbrev pub IsShort : Key × Kept → Type 0
IsShort e = length (entry_text e) ≤ longest_body

-- the entry's lines alone are longer than a section's may be
abbrev pub IsLong : Key × Kept → Type 0
IsLong e = longest_body < length (entry_text e)

-- what a writer holds grows by a snapshot of the state
pub record Writes (old new : Option (List ℕ)) (x : Entries) : Type 0 where
  pub bytes : List ℕ
  pub snapshot : IsSnapshotOf bytes x
  pub appended : Appends old new bytes

-- what a writer holds grows by a beginning of a snapshot of the state's first entries, and not by the whole snapshot
pub record WritesLess (old new : Option (List ℕ)) (x : Entries) : Type 0 where
  pub first : Entries
  pub others : List (Key × Kept)
  pub in_order : map.entries first ++ others ≡ map.entries x
  pub bytes : List ℕ
  pub snapshot : IsSnapshotOf bytes first
  pub less : AppendsLess old new bytes

-- each text is that of the state at its place
abbrev pub AreTextsOf : List (List ℕ) → List Entries → Type 0
AreTextsOf [] [] = ⊤
AreTextsOf [] (x ∷ xs) = ⊥
AreTextsOf (t ∷ ts) [] = ⊥
AreTextsOf (t ∷ ts) (x ∷ xs) = IsTextOf t x × AreTextsOf ts xs

-- the bytes are a snapshot whose texts are those of the states, in order
pub record IsReadAs (bytes : List ℕ) (states : List Entries) : Type 0 where
  pub texts : List (List ℕ)
  pub sections : AreSections texts
  pub bytes_are : bytes ≡ snapshot_text texts
  pub texts_are : AreTextsOf texts states
