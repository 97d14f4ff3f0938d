-- The text of a state in both formats, and the states that have one.
use Rattle.std.specs.Prelude.{◌≡◌, ◌⊎◌, ℕ, ◌<◌, ◌^◌, List, [], ◌∷◌, ◌++◌, length, codes, All}
use Rattle.std.specs.Prelude.{Option, Some, None, IfSome, IsSome}
use Rattle.std.specs.List.{flat_map}
use Rattle.std.specs.Fmt.{decimal}
use Rattle.std.specs.FinMap as map
use Rattle.memento_time.specs.Text.{IsArchiveName, IsOriginal}
use Rattle.memento_time.specs.declared.mementos.Memento.{Memento}
use Rattle.memento_time.specs.Mementos.{IsMemento}
use Rattle.memento_sets.specs.Sets as set
use Rattle.memento_sets.specs.MementoSets.{Mementos}
use Rattle.harvest_lattice.specs.Lattice.{Key, Kept, Entries, whole}

-- ---- what both formats share

-- fields, parted by spaces and ended by LF
abbrev pub line : List (List ℕ) → List ℕ
line [] = 10 ∷ []
line (field ∷ []) = field ++ 10 ∷ []
line (field ∷ next ∷ fields) = field ++ 32 ∷ line (next ∷ fields)

-- `SECONDS URI`
abbrev pub memento_line : Memento → List ℕ
memento_line m = line (decimal m.at ∷ m.uri ∷ [])

-- a line for each memento of a set, in order
abbrev pub memento_lines : Mementos → List ℕ
memento_lines s = flat_map memento_line (set.items s)

-- `entry ARCHIVE FIELD NUMBER ORIGINAL`
abbrev pub line_of_entry : Key → List ℕ → ℕ → List ℕ
line_of_entry key field number = line (codes "entry" ∷ key.0 ∷ field ∷ decimal number ∷ key.1 ∷ [])

-- `entries N`, each entry as it is written, `end`
abbrev pub listing_text : (Key × Kept → List ℕ) → List (Key × Kept) → List ℕ
listing_text written es = line (codes "entries" ∷ decimal (length es) ∷ [])
    ++ (flat_map written es ++ line (codes "end" ∷ []))

-- ---- format 2

-- the whole revision, or `-` if there is none
abbrev pub whole_field : Option ℕ → List ℕ
whole_field None = codes "-"
whole_field (Some revision) = decimal revision

-- `entry ARCHIVE WHOLE REVISIONS ORIGINAL`
abbrev pub entry_line : Key → Option ℕ → ℕ → List ℕ
entry_line key whole revisions = line_of_entry key (whole_field whole) revisions

-- `at REVISION COUNT`
abbrev pub part_line : ℕ → ℕ → List ℕ
part_line revision count = line (codes "at" ∷ decimal revision ∷ decimal count ∷ [])

-- a revision's line, and the lines of its mementos
abbrev pub part_text : ℕ × Mementos → List ℕ
part_text p = part_line p.0 (length (set.items p.1)) ++ memento_lines p.1

-- an entry's line, and its revisions in order
abbrev pub entry_text : Key × Kept → List ℕ
entry_text e = entry_line e.0 (whole e.1) (length (map.entries e.1.revisions))
    ++ flat_map part_text (map.entries e.1.revisions)

-- N, the end of its line, and the entries
abbrev pub counted_text : List (Key × Kept) → List ℕ
counted_text es = (decimal (length es) ++ 10 ∷ []) ++ flat_map entry_text es

-- the entries from `entries N` to `end`
abbrev pub entries_text : List (Key × Kept) → List ℕ
entries_text es = listing_text entry_text es

-- `memento-state 2`, and the entries by archive, then by original
abbrev pub state_text : Entries → List ℕ
state_text state = line (codes "memento-state" ∷ codes "2" ∷ []) ++ entries_text (map.entries state)

-- ---- format 1

-- `entry ARCHIVE REVISION COUNT ORIGINAL`
abbrev pub old_entry_line : Key → ℕ → ℕ → List ℕ
old_entry_line key revision count = line_of_entry key (decimal revision) count

-- an entry's line with its revision, and the lines of that one's mementos
abbrev pub old_part_text : Key → ℕ × Mementos → List ℕ
old_part_text key p = old_entry_line key p.0 (length (set.items p.1)) ++ memento_lines p.1

-- an entry of one revision
abbrev pub old_entry_text : Key × Kept → List ℕ
old_entry_text e = flat_map (old_part_text e.0) (map.entries e.1.revisions)

-- the entries from `entries N` to `end`
abbrev pub old_entries_text : List (Key × Kept) → List ℕ
old_entries_text es = listing_text old_entry_text es

-- `memento-state 1`, and the entries by archive, then by original
abbrev pub old_text : Entries → List ℕ
old_text state = line (codes "memento-state" ∷ codes "1" ∷ []) ++ old_entries_text (map.entries state)

-- ---- what has a text

-- an archive's name, an original, and numbers of 64 bits
pub record IsEntryLine (key : Key) (whole : Option ℕ) (revisions : ℕ) : Type 0 where
  pub archive : IsArchiveName key.0
  pub original : IsOriginal key.1
  pub whole_fits : IfSome whole (λ revision. revision < 2 ^ 64)
  pub revisions_fit : revisions < 2 ^ 64

-- numbers of 64 bits
pub record IsPartLine (revision count : ℕ) : Type 0 where
  pub revision_fits : revision < 2 ^ 64
  pub count_fits : count < 2 ^ 64

-- a revision below 2^64, and mementos that can be written
pub record IsPart (p : ℕ × Mementos) : Type 0 where
  pub line : IsPartLine p.0 (length (set.items p.1))
  pub mementos : All IsMemento (set.items p.1)

-- an archive's name, an original, and revisions that can be written
pub record IsEntry (e : Key × Kept) : Type 0 where
  pub line : IsEntryLine e.0 (whole e.1) (length (map.entries e.1.revisions))
  pub parts : All IsPart (map.entries e.1.revisions)

-- fewer than 2^64 entries, each of which can be written
pub record AreEntries (es : List (Key × Kept)) : Type 0 where
  pub each : All IsEntry es
  pub count : length es < 2 ^ 64

-- every state that a program can hold
abbrev pub IsState : Entries → Type 0
IsState state = AreEntries (map.entries state)

-- it has a whole revision, and no other
pub record IsWholeAlone (kept : Kept) : Type 0 where
  pub is_whole : IsSome (whole kept)
  pub alone : length (map.entries kept.revisions) ≡ 1

-- each entry has its whole revision alone: such a state can be written in format 1
abbrev pub IsOld : Entries → Type 0
IsOld state = All (λ e. IsWholeAlone e.1) (map.entries state)

-- the bytes are the state's text, in format 2 or in format 1
pub record IsTextOf (bytes : List ℕ) (s : Entries) : Type 0 where
  pub state : IsState s
  pub text : (bytes ≡ state_text s) ⊎ (IsOld s × (bytes ≡ old_text s))
