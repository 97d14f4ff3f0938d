-- Dates before 1970 in the form of an IMF-fixdate (RFC 9110, section 5.6.7). No second counts them.
use Rattle.std.specs.Prelude.{◌≡◌, ℕ, ◌<◌, Bool, true, ◌==◌, ◌&&◌, List, length, take, drop, codes, bytes_eq}
use Rattle.std.specs.Prelude.{if◌then◌else◌}
use Rattle.std.specs.Char.{is_ascii_digit}
use Rattle.std.specs.List.{list_any, list_all, zip}
use Rattle.std.specs.Int.{IsInRange}
use Rattle.std.specs.Ordering.{nat_cmp, is_lt}
use Rattle.std.specs.Cmp.Lexicographic.{slice_cmp}
use Rattle.httpdate.specs.declared.parts.Parts.{Parts}
use Rattle.httpdate.specs.Text.{imf_fixdate}
use Rattle.memento_time.specs.Names.{day_names, month_names}

-- a digit stands at each 0, the names of day and month at the question marks, and the rest as it is
abbrev pub date_form : List ℕ
date_form = codes "???, 00 ??? 0000 00:00:00 GMT"

-- a byte fits the byte of the form at its place
abbrev pub fits : ℕ × ℕ → Bool
fits p = if p.1 == 0x3F then true else (if p.1 == 0x30 then is_ascii_digit p.0 else p.0 == p.1)

-- the name is among these
abbrev pub is_name : List (List ℕ) → List ℕ → Bool
is_name names name = list_any (λ n. bytes_eq n name) names

-- a year below 1970: four digits are in the order of their numbers
abbrev pub is_year_before_1970 : List ℕ → Bool
is_year_before_1970 digits = is_lt (slice_cmp nat_cmp digits (codes "1970"))

-- a text in that form, with a day's and a month's name and a year below 1970; its two-digit numbers may be any
unfoldable pub is_before_epoch : List ℕ → Bool
is_before_epoch text =
    (length text == 29)
    && list_all fits (zip text date_form)
    && is_name day_names (take 3 text)
    && is_name month_names (take 3 (drop 8 text))
    && is_year_before_1970 (take 4 (drop 12 text))

-- The text is the IMF-fixdate of a year before 1970. The day's name needn't fit, and its two-digit numbers may be any.
pub record IsBeforeEpoch (text : List ℕ) : Type 0 where
  pub date : Parts
  pub weekday : IsInRange 1 7 date.wday
  pub month : IsInRange 1 12 date.mon
  pub year : date.year < 1970
  pub numbers : (date.day < 100) × (date.hour < 100) × (date.min < 100) × (date.sec < 100)
  pub shown : text ≡ imf_fixdate date
