-- How much memory a process holds.
use Rattle.std.specs.Prelude.{ℕ, ◌*◌, ◌^◌, List, Option, None, Some, nat_lt, if◌then◌else◌}
use Rattle.text_fields.specs.Decimals.{number_of}
use Rattle.text_fields.specs.Parts.{parts_at, space}

-- the number before a space
abbrev pub number_before : Option (List ℕ × List ℕ) → Option ℕ
number_before None = None
number_before (Some parts) = number_of parts.0

-- the second field
abbrev pub second_of : Option (List ℕ × List ℕ) → Option ℕ
second_of None = None
second_of (Some parts) = number_before (parts_at space parts.1)

-- the pages that the second field of a text counts
abbrev pub pages_in : List ℕ → Option ℕ
pages_in text = second_of (parts_at space text)

-- the bytes of pages, as far as 64 bits count them
abbrev pub bytes_of : Option ℕ → Option ℕ
bytes_of None = None
bytes_of (Some pages) = if nat_lt (pages * 4096) (2 ^ 64) then Some (pages * 4096) else None

-- the bytes of memory that are resident
abbrev pub resident_in : List ℕ → Option ℕ
resident_in text = bytes_of (pages_in text)
