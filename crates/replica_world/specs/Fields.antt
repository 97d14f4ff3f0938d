-- The lines of a script, the fields of a line, and the blocks and lines that follow it.
use Rattle.std.specs.Prelude.{ℕ, zero, suc, Bool, ◌&&◌, ◌||◌, List, [], ◌∷◌, length, take, drop, Option, None, Some}
use Rattle.std.specs.Prelude.{unwrap_or, nat_lt, nat_le, ◌==◌, if◌then◌else◌}
use Rattle.std.specs.Option.{option_map}
use Rattle.std.specs.Str.{is_utf8}
use Rattle.text_fields.specs.Decimals.{number_of}
use Rattle.text_fields.specs.Parts.{space, line_end, parts_at}
use Rattle.link_format.specs.Scan.{◌>>=◌}

-- the first line, and what follows it; the last line may lack its LF
abbrev pub first_line : List ℕ → List ℕ × List ℕ
first_line text = unwrap_or (parts_at line_end text) (text, [])

-- the text from its first line on that isn't empty
unfoldable pub after_empty_lines : List ℕ → List ℕ
after_empty_lines [] = []
after_empty_lines (b ∷ text) = if b == 10 then after_empty_lines text else b ∷ text

-- a field that another follows, and what stands behind the space between them
abbrev pub field : List ℕ → Option (List ℕ × List ℕ)
field text = parts_at space text

-- a decimal that another field follows
abbrev pub number_field : List ℕ → Option (ℕ × List ℕ)
number_field text = do
  part ← field text
  number ← number_of part.0
  Some (number, part.1)

-- a field of at least one byte that another follows
abbrev pub word_field : List ℕ → Option (List ℕ × List ℕ)
word_field text = do
  part ← field text
  if length part.0 == 0 then None else Some part

-- a visible ASCII character
abbrev pub is_visible : ℕ → Bool
is_visible b = nat_le 0x21 b && nat_le b 0x7E

-- the bytes, if they are UTF-8
unfoldable pub utf8_text : List ℕ → Option (List ℕ)
utf8_text bytes = if is_utf8 bytes then Some bytes else None

-- nothing, or the end of a line and what follows it
abbrev pub after_line_end : List ℕ → Option (List ℕ)
after_line_end [] = Some []
after_line_end (b ∷ rest) = if b == 10 then Some rest else None

-- 300,000,000 bytes
abbrev pub longest_block : ℕ
longest_block = 300000000

-- this number of bytes, followed by LF or the end, and what follows them
unfoldable pub block_of : ℕ → List ℕ → Option (List ℕ × List ℕ)
block_of len text =
    if nat_lt longest_block len || nat_lt (length text) len then None
    else option_map (λ rest. (take len text, rest)) (after_line_end (drop len text))

-- 65,536 bytes
abbrev pub longest_line : ℕ
longest_line = 65536

-- the first line and what follows it, if there is one that isn't too long
unfoldable pub line_of : List ℕ → Option (List ℕ × List ℕ)
line_of text =
    if (length text == 0) || nat_lt longest_line (length (first_line text).0) then None
    else Some (first_line text)

-- this number of lines, and what follows them
unfoldable pub lines_of : ℕ → List ℕ → Option (List (List ℕ) × List ℕ)
lines_of zero text = Some ([], text)
lines_of (suc count) text = do
  line ← line_of text
  more ← lines_of count line.1
  Some (line.0 ∷ more.0, more.1)
