-- The names of days and months (RFC 9110, section 5.6.7).
use Rattle.std.specs.Prelude.{ℕ, List, [], ◌∷◌, codes}

-- day-name
abbrev pub day_names : List (List ℕ)
day_names =
    codes "Mon" ∷ codes "Tue" ∷ codes "Wed" ∷ codes "Thu" ∷ codes "Fri" ∷ codes "Sat"
    ∷ codes "Sun" ∷ []

-- month
abbrev pub month_names : List (List ℕ)
month_names =
    codes "Jan" ∷ codes "Feb" ∷ codes "Mar" ∷ codes "Apr" ∷ codes "May" ∷ codes "Jun"
    ∷ codes "Jul" ∷ codes "Aug" ∷ codes "Sep" ∷ codes "Oct" ∷ codes "Nov" ∷ codes "Dec" ∷ []
