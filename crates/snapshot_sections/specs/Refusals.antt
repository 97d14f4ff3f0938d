-- Why the next part of a snapshot isn't read: the bytes don't go on as a snapshot does.
use Rattle.std.specs.Prelude.{◌≢◌, ℕ, ◌<◌, ◌≤◌, ◌^◌, List, ◌∷◌, ◌++◌, length}
use Rattle.snapshot_sections.specs.Sections.{first_line, last_line, line_text, section_text, IsLine}
use Rattle.snapshot_sections.specs.declared.lines.Line.{Line}

-- the most bytes of a text that is read
abbrev pub longest_section : ℕ
longest_section = 268435456

-- no LF stands behind fewer than 32 bytes
abbrev pub LacksShortLine : List ℕ → Type 0
LacksShortLine bytes = (line more : List ℕ) → length line < 32 → bytes ≢ line ++ 10 ∷ more

-- they don't begin with the first line of a snapshot
abbrev pub LacksFirstLine : List ℕ → Type 0
LacksFirstLine bytes = (more : List ℕ) → bytes ≢ first_line ++ more

-- they don't begin with a line that follows the first line or a text
abbrev pub LacksLine : List ℕ → Type 0
LacksLine bytes = (line : Line) (more : List ℕ) → IsLine line → bytes ≢ line_text line ++ more

-- they neither begin with a text nor are the last line behind so many texts
pub record LacksSection (count : ℕ) (bytes : List ℕ) : Type 0 where
  pub no_text : (text more : List ℕ) → length text ≤ longest_section → bytes ≢ section_text text ++ more
  pub no_end : count < 2 ^ 64 → bytes ≢ last_line count
