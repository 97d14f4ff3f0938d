-- What the lines of a file of originals hold.
use Rattle.std.specs.Prelude.{◌≡◌, ℕ, ◌+◌, ◌-◌, ◌^◌, ◌&&◌, ◌==◌, min, Bool, true, false, List, [], ◌∷◌, ◌++◌, length, drop, map, nat_eq, nat_lt, Option, Some, None, if◌then◌else◌}
use Rattle.std.specs.List.{flat_map, slice_split, starts_with}
use Rattle.memento_time.specs.Blanks.{is_among, trim}
use Rattle.timegate.specs.Route.{original_at}
use Rattle.original_list.specs.declared.rows.Listed.{Listed}
use Rattle.original_list.specs.declared.rows.Row.{Row}
use Rattle.original_list.specs.declared.rows.Row.TheVariants.{Blank, Named, Bad}

-- the most lines that are told by their numbers
abbrev pub most_told : ℕ
most_told = 20

-- the line without the spaces, the tabs and the CRs at its ends
abbrev pub without_blanks : List ℕ → List ℕ
without_blanks line = trim (is_among (32 ∷ 9 ∷ 13 ∷ [])) line

-- an original, if the text names one
abbrev pub row_naming : Option (List ℕ) → Row
row_naming None = Bad
row_naming (Some original) = Named original

-- what a line holds
abbrev pub row_of : List ℕ → Row
row_of line = if length (without_blanks line) == 0 then Blank else row_naming (original_at (without_blanks line))

-- the lines of a text, each of which ends at a LF or with the text
abbrev pub lines_of : List ℕ → List (List ℕ)
lines_of text = slice_split (λ b. b == 10) text

-- the byte order mark in UTF-8
abbrev pub mark : List ℕ
mark = 239 ∷ 187 ∷ 191 ∷ []

-- the text behind the mark, if it begins with that
abbrev pub behind_mark : List ℕ → List ℕ
behind_mark text = if starts_with nat_eq text mark then drop (length mark) text else text

-- what the lines hold
abbrev pub rows_of : List ℕ → List Row
rows_of text = map row_of (lines_of (behind_mark text))

abbrev pub original_in : Row → List (List ℕ)
original_in Blank = []
original_in (Named original) = original ∷ []
original_in Bad = []

-- the originals, in the order of their lines
abbrev pub originals_of : List Row → List (List ℕ)
originals_of rows = flat_map original_in rows

abbrev pub is_bad : Row → Bool
is_bad Blank = false
is_bad (Named original) = false
is_bad Bad = true

-- the numbers of the bad ones, if the first has this number
abbrev pub bad_lines : ℕ → List Row → List ℕ
bad_lines number [] = []
bad_lines number (row ∷ rows) =
    if is_bad row then number ∷ bad_lines (number + 1) rows else bad_lines (number + 1) rows

-- what is read then, if a line of this number holds this
pub record TakesRow (number : ℕ) (row : Row) (old new : Listed) : Type 0 where
  pub originals : new.originals.items ≡ old.originals.items ++ original_in row
  pub bad : new.bad.items
      ≡ (if is_bad row && nat_lt (length old.bad.items) most_told then old.bad.items ++ number ∷ [] else old.bad.items)
  pub count : new.bad_count ≡ (if is_bad row then min (old.bad_count + 1) (2 ^ 64 - 1) else old.bad_count)
