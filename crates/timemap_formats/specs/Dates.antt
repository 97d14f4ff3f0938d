-- How the forms write a datetime, beside the IMF-fixdate that link-format has.
use Rattle.std.specs.Prelude.{ℕ, List, ◌++◌, codes, bytes_eq, if◌then◌else◌}
use Rattle.httpdate.specs.declared.parts.Parts.{Parts}
use Rattle.httpdate.specs.Text.{two_digits, four_digits, time_of_day}
use Rattle.memento_time.specs.Civil.{civil_time}

-- `2015-01-05T10:23:36Z`
abbrev pub rfc3339_date : Parts → List ℕ
rfc3339_date p =
    four_digits p.year ++ codes "-" ++ two_digits p.mon ++ codes "-" ++ two_digits p.day ++ codes "T"
    ++ time_of_day p ++ codes "Z"

-- `20150105102336`
abbrev pub digits_date : Parts → List ℕ
digits_date p =
    four_digits p.year ++ two_digits p.mon ++ two_digits p.day ++ two_digits p.hour ++ two_digits p.min
    ++ two_digits p.sec

-- a second as RFC 3339 (section 5.6) writes it, in Greenwich's time
unfoldable pub rfc3339 : ℕ → List ℕ
rfc3339 s = rfc3339_date (civil_time s)

-- a second in fourteen digits, as archives write it in addresses
unfoldable pub digits : ℕ → List ℕ
digits s = digits_date (civil_time s)

-- the number of the month that a name of an IMF-fixdate names, in two digits
abbrev pub month_digits : List ℕ → List ℕ
month_digits name =
    if bytes_eq name (codes "Jan") then codes "01"
    else if bytes_eq name (codes "Feb") then codes "02"
    else if bytes_eq name (codes "Mar") then codes "03"
    else if bytes_eq name (codes "Apr") then codes "04"
    else if bytes_eq name (codes "May") then codes "05"
    else if bytes_eq name (codes "Jun") then codes "06"
    else if bytes_eq name (codes "Jul") then codes "07"
    else if bytes_eq name (codes "Aug") then codes "08"
    else if bytes_eq name (codes "Sep") then codes "09"
    else if bytes_eq name (codes "Oct") then codes "10"
    else if bytes_eq name (codes "Nov") then codes "11"
    else codes "12"
