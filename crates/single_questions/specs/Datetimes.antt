-- Which moment fourteen digits name: that of the IMF-fixdate with the same numbers, whose day's name isn't looked at.
use Rattle.std.specs.Prelude.{ℕ, List, [], ◌∷◌, get_or, take, drop, length, ◌==◌, Option, Some, None, codes, bytes_eq, if◌then◌else◌}
use Rattle.std.specs.Option.{option_and_then}
use Rattle.memento_time.specs.SecondOf.{second_of}

-- the name of the month that two digits name
abbrev pub month_name_of : List ℕ → Option (List ℕ)
month_name_of number =
    if bytes_eq number (codes "01") then Some (codes "Jan")
    else (if bytes_eq number (codes "02") then Some (codes "Feb")
    else (if bytes_eq number (codes "03") then Some (codes "Mar")
    else (if bytes_eq number (codes "04") then Some (codes "Apr")
    else (if bytes_eq number (codes "05") then Some (codes "May")
    else (if bytes_eq number (codes "06") then Some (codes "Jun")
    else (if bytes_eq number (codes "07") then Some (codes "Jul")
    else (if bytes_eq number (codes "08") then Some (codes "Aug")
    else (if bytes_eq number (codes "09") then Some (codes "Sep")
    else (if bytes_eq number (codes "10") then Some (codes "Oct")
    else (if bytes_eq number (codes "11") then Some (codes "Nov")
    else (if bytes_eq number (codes "12") then Some (codes "Dec") else None)))))))))))

-- fourteen digits as an IMF-fixdate with a month's name, under the name of some day
abbrev pub as_imf : List ℕ → List ℕ → List ℕ
as_imf t m =
    77 ∷ 111 ∷ 110 ∷ 44 ∷ 32 ∷ get_or t 6 0 ∷ get_or t 7 0 ∷ 32 ∷ get_or m 0 0 ∷ get_or m 1 0 ∷ get_or m 2 0 ∷ 32
    ∷ get_or t 0 0 ∷ get_or t 1 0 ∷ get_or t 2 0 ∷ get_or t 3 0 ∷ 32 ∷ get_or t 8 0 ∷ get_or t 9 0 ∷ 58
    ∷ get_or t 10 0 ∷ get_or t 11 0 ∷ 58 ∷ get_or t 12 0 ∷ get_or t 13 0 ∷ 32 ∷ 71 ∷ 77 ∷ 84 ∷ []

-- the moment that a text of this length names, if the month is one
abbrev pub moment_in : List ℕ → Option (List ℕ) → Option ℕ
moment_in text month = option_and_then (λ name. second_of (as_imf text name)) month

-- the moment that a text names
unfoldable pub moment_of : List ℕ → Option ℕ
moment_of text = if length text == 14 then moment_in text (month_name_of (take 2 (drop 4 text))) else None
