-- Several texts as one, whose last line says how many they are.
use Rattle.std.specs.Prelude.{ℕ, ◌<◌, ◌^◌, List, [], ◌∷◌, ◌++◌, length, codes, All}
use Rattle.std.specs.List.{flat_map}
use Rattle.std.specs.Fmt.{decimal}
use Rattle.snapshot_sections.specs.declared.lines.Line.{Line}
use Rattle.snapshot_sections.specs.declared.lines.Line.TheVariants.{Section, Last}

-- `memento-snapshot 1`
abbrev pub first_line : List ℕ
first_line = codes "memento-snapshot 1" ++ 10 ∷ []

-- `section LENGTH`
abbrev pub section_line : ℕ → List ℕ
section_line length = codes "section " ++ (decimal length ++ 10 ∷ [])

-- `sections N`
abbrev pub last_line : ℕ → List ℕ
last_line count = codes "sections " ++ (decimal count ++ 10 ∷ [])

-- a line that follows the first line or a text
abbrev pub line_text : Line → List ℕ
line_text (Section length) = section_line length
line_text (Last count) = last_line count

-- numbers of 64 bits
abbrev pub IsLine : Line → Type 0
IsLine (Section length) = length < 2 ^ 64
IsLine (Last count) = count < 2 ^ 64

-- a text behind the line that says how long it is
abbrev pub section_text : List ℕ → List ℕ
section_text text = section_line (length text) ++ text

-- the first line, each text in order, and the line that says how many they are
abbrev pub snapshot_text : List (List ℕ) → List ℕ
snapshot_text texts = first_line ++ (flat_map section_text texts ++ last_line (length texts))

-- texts whose lengths and number have 64 bits
pub record AreSections (texts : List (List ℕ)) : Type 0 where
  pub each : All (λ text. length text < 2 ^ 64) texts
  pub count : length texts < 2 ^ 64
