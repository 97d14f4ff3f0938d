-- The parts of a state's text, as ways of writing values.
use Rattle.std.specs.Prelude.{◌≡◌, ℕ, ◌<◌, ◌≤◌, ◌^◌, List, [], ◌∷◌, length, codes, All, Option, IfSome}
use Rattle.std.specs.Fmt.{decimal}
use Rattle.std.specs.FinMap as map
use Rattle.std.specs.List.{flat_map}
use Rattle.memento_time.specs.Text.{IsArchiveName, IsOriginal}
use Rattle.memento_time.specs.declared.mementos.Memento.{Memento}
use Rattle.memento_time.specs.Mementos.{IsMemento}
use Rattle.memento_sets.specs.Sets as set
use Rattle.memento_sets.specs.MementoSets.{Mementos}
use Rattle.harvest_lattice.specs.Lattice.{Key, Kept, Entries}
use Rattle.harvest_lattice.specs.Parts.{kept_with}
use Rattle.replica_exchange.specs.StateText.{line, memento_line, memento_lines, line_of_entry, whole_field}
use Rattle.replica_exchange.specs.StateText.{part_line, part_text, entry_text, old_entry_text}
use Rattle.replica_exchange.specs.StateText.{listing_text, IsPartLine, IsPart, IsEntry, IsWholeAlone}
use Rattle.replica_exchange.specs.DeltaText.{from_line}
use Rattle.replica_exchange.specs.declared.format.Format.{Format}
use Rattle.replica_exchange.specs.declared.format.Format.TheVariants.{One, Two}
use Rattle.replica_exchange.specs.Spelling.{Spelling, Begins, value_and_end}

-- the line of a memento
abbrev pub memento : Spelling Memento
memento = record { Is = IsMemento; spelled = memento_line }

-- there is no whole revision, or one of 64 bits
abbrev pub IsWholeField : Option ℕ → Type 0
IsWholeField w = IfSome w (λ revision. revision < 2 ^ 64)

-- the whole revision or `-`, and the space that ends it
abbrev pub whole_ended : Spelling (Option ℕ)
whole_ended = value_and_end IsWholeField whole_field 32

-- an entry's line: its key, between whose two texts stand a field, written so, and a number
abbrev pub line_with : {A : Type 0} → (A → Type 0) → (A → List ℕ) → Spelling (Key × (A × ℕ))
line_with Is written = record {
  Is = λ h. (IsArchiveName h.0.0 × IsOriginal h.0.1) × (Is h.1.0 × (h.1.1 < 2 ^ 64));
  spelled = λ h. line_of_entry h.0 (written h.1.0) h.1.1;
}

-- in format 2 with the whole revision and the number of revisions
abbrev pub head : Spelling (Key × (Option ℕ × ℕ))
head = line_with IsWholeField whole_field

-- in format 1 with the revision and the number of mementos
abbrev pub old_head : Spelling (Key × (ℕ × ℕ))
old_head = line_with (λ n. n < 2 ^ 64) decimal

-- the lines of so many mementos, each once, in order
abbrev pub set_of : ℕ → Spelling Mementos
set_of count = record {
  Is = λ s. (length (set.items s) ≡ count) × All IsMemento (set.items s);
  spelled = memento_lines;
}

-- a revision's line: the revision and the number of its mementos
abbrev pub part_head : Spelling (ℕ × ℕ)
part_head = record { Is = λ h. IsPartLine h.0 h.1; spelled = λ h. part_line h.0 h.1 }

-- a revision's line and the lines of its mementos
abbrev pub part : Spelling (ℕ × Mementos)
part = record { Is = IsPart; spelled = part_text }

-- an entry's line and its revisions
abbrev pub new_entry : Spelling (Key × Kept)
new_entry = record { Is = IsEntry; spelled = entry_text }

-- an entry's line with its revision, and the lines of its mementos
abbrev pub old_entry : Spelling (Key × Kept)
old_entry = record { Is = λ e. IsEntry e × IsWholeAlone e.1; spelled = old_entry_text }

-- an entry in a format
abbrev pub entry : Format → Spelling (Key × Kept)
entry One = old_entry
entry Two = new_entry

-- this number of them, one after the other
abbrev pub many : {A : Type 0} → ℕ → Spelling A → Spelling (List A)
many count s = record { Is = λ xs. (length xs ≡ count) × All s.Is xs; spelled = flat_map s.spelled }

-- the text is this number of revisions and what follows, and the entry is what they make with the whole one, if any
pub record BeginsKept (whole : Option ℕ) (count : ℕ) (text : List ℕ) (kept : Option Kept) (rest : List ℕ) : Type 0 where
  pub parts : List (ℕ × Mementos)
  pub begins : Begins (many count part) text parts rest
  pub makes : kept ≡ kept_with whole parts

-- `entries N` to `end`
abbrev pub listing : Format → Spelling (List (Key × Kept))
listing f = record { Is = λ es. All (entry f).Is es × (length es < 2 ^ 64); spelled = listing_text (entry f).spelled }

-- a state's entries
abbrev pub entries_in : Format → Spelling Entries
entries_in f = record {
  Is = λ state. (listing f).Is (map.entries state);
  spelled = λ state. (listing f).spelled (map.entries state);
}

-- a delta's line of its incarnation, start and end
abbrev pub span : Spelling (ℕ × (ℕ × ℕ))
span = record {
  Is = λ s. ((s.0 < 2 ^ 64) × (s.1.0 ≤ s.1.1)) × (s.1.1 < 2 ^ 64);
  spelled = λ s. from_line s.0 s.1.0 s.1.1;
}

-- the first line of a text: what it is the text of, and its format
abbrev pub first_line : List ℕ → Format → List ℕ
first_line word One = line (word ∷ codes "1" ∷ [])
first_line word Two = line (word ∷ codes "2" ∷ [])
