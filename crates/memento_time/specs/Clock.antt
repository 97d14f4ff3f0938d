-- The two parts of an IMF-fixdate: its day, and its clock.
use Rattle.std.specs.Prelude.{ℕ, ◌/◌, ◌%◌, List, ◌++◌, codes}
use Rattle.httpdate.specs.Text.{two_digits}

-- the clock of a second, as `08:49:37 GMT`: the last twelve bytes of its IMF-fixdate
unfoldable pub clock_text : ℕ → List ℕ
clock_text s =
    two_digits (s / 3600 % 24) ++ codes ":" ++ two_digits (s / 60 % 60) ++ codes ":" ++ two_digits (s % 60) ++ codes " GMT"

-- the day of a second, counted from 1 January 1970
abbrev pub day_of : ℕ → ℕ
day_of s = s / 86400
