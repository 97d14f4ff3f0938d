-- The datetimes of the forms are made of the bytes of the IMF-fixdate.
use Rattle.std.proofs.Common.{◌≡◌, ℕ, zero, suc, ◌+◌, ◌/◌, ◌%◌, ◌≤◌, ◌<◌, List, [], ◌∷◌, ◌++◌, codes, get_or, drop, refl, sym, ap, ◌∙◌, arith, true, lit≤}
use Rattle.std.specs.List.{list_all}
use Rattle.std.specs.Int.{IsInRange}
use Rattle.std.proofs.lemmas.Bool.Decides.{nat_tests}
use Rattle.std.proofs.lemmas.List.Folds.{list_all-append}
use Rattle.httpdate.specs.declared.parts.Parts.{Parts}
use Rattle.httpdate.specs.Valid.{IsValid}
use Rattle.httpdate.specs.Text.{day_name, month_name, two_digits, four_digits, imf_fixdate, time_of_day}
use Rattle.memento_time.specs.Civil.{civil_time}
use Rattle.memento_time.specs.Second.{IsSecond, imf}
use Rattle.memento_time.specs.Text.{IsClean, is_clean_byte}
use Rattle.memento_time.proofs.CivilLemmas.{civil_time-valid, days_at_most}
use Rattle.memento_time.proofs.ReadLemmas.{tail_of, imf_fixdate-tail_of, wday_in_range, drop-imf, Reads-imf, Reads_unique, from_two}
use Rattle.memento_time.proofs.CleanLemmas.{clean_bytes}
use Rattle.timemap_formats.specs.Dates.{rfc3339_date, digits_date, rfc3339, digits, month_digits}

abbrev pub month_of : List ℕ → List ℕ
month_of t = month_digits (get_or t 8 0 ∷ get_or t 9 0 ∷ get_or t 10 0 ∷ [])

-- the bytes of the one text in the order of the other
abbrev pub rfc3339_bytes : List ℕ → List ℕ
rfc3339_bytes t =
    get_or t 12 0 ∷ get_or t 13 0 ∷ get_or t 14 0 ∷ get_or t 15 0 ∷ 45 ∷ get_or (month_of t) 0 0 ∷ get_or (month_of t) 1 0 ∷ 45 ∷ get_or t 5 0 ∷ get_or t 6 0
    ∷ 84 ∷ get_or t 17 0 ∷ get_or t 18 0 ∷ 58 ∷ get_or t 20 0 ∷ get_or t 21 0 ∷ 58 ∷ get_or t 23 0 ∷ get_or t 24 0 ∷ 90 ∷ []

abbrev pub digits_bytes : List ℕ → List ℕ
digits_bytes t =
    get_or t 12 0 ∷ get_or t 13 0 ∷ get_or t 14 0 ∷ get_or t 15 0 ∷ get_or (month_of t) 0 0 ∷ get_or (month_of t) 1 0 ∷ get_or t 5 0 ∷ get_or t 6 0
    ∷ get_or t 17 0 ∷ get_or t 18 0 ∷ get_or t 20 0 ∷ get_or t 21 0 ∷ get_or t 23 0 ∷ get_or t 24 0 ∷ []

three : (n : ℕ) → IsInRange 1 7 n → (a b c : ℕ) × (day_name n ≡ a ∷ b ∷ c ∷ [])
three (suc zero) h = (_, _, _, refl)
three (suc (suc zero)) h = (_, _, _, refl)
three (suc (suc (suc zero))) h = (_, _, _, refl)
three (suc (suc (suc (suc zero)))) h = (_, _, _, refl)
three (suc (suc (suc (suc (suc zero))))) h = (_, _, _, refl)
three (suc (suc (suc (suc (suc (suc zero)))))) h = (_, _, _, refl)
three (suc (suc (suc (suc (suc (suc (suc zero))))))) h = (_, _, _, refl)
three zero h = absurd (omega arith)
three (suc (suc (suc (suc (suc (suc (suc (suc k)))))))) h = absurd (omega arith)

-- the tail with the name of the month given by its number
abbrev parts_at : ℕ → Parts → Parts
parts_at m p = record { year = p.year; mon = m; day = p.day; hour = p.hour; min = p.min; sec = p.sec; wday = p.wday }

tail_dates : (p : Parts) (a b c m : ℕ) → IsInRange 1 12 m
    → (rfc3339_bytes (a ∷ b ∷ c ∷ tail_of (parts_at m p)) ≡ rfc3339_date (parts_at m p))
    × (digits_bytes (a ∷ b ∷ c ∷ tail_of (parts_at m p)) ≡ digits_date (parts_at m p))
tail_dates p a b c (suc zero) h = (refl, refl)
tail_dates p a b c (suc (suc zero)) h = (refl, refl)
tail_dates p a b c (suc (suc (suc zero))) h = (refl, refl)
tail_dates p a b c (suc (suc (suc (suc zero)))) h = (refl, refl)
tail_dates p a b c (suc (suc (suc (suc (suc zero))))) h = (refl, refl)
tail_dates p a b c (suc (suc (suc (suc (suc (suc zero)))))) h = (refl, refl)
tail_dates p a b c (suc (suc (suc (suc (suc (suc (suc zero))))))) h = (refl, refl)
tail_dates p a b c (suc (suc (suc (suc (suc (suc (suc (suc zero)))))))) h = (refl, refl)
tail_dates p a b c (suc (suc (suc (suc (suc (suc (suc (suc (suc zero))))))))) h = (refl, refl)
tail_dates p a b c (suc (suc (suc (suc (suc (suc (suc (suc (suc (suc zero)))))))))) h = (refl, refl)
tail_dates p a b c (suc (suc (suc (suc (suc (suc (suc (suc (suc (suc (suc zero))))))))))) h = (refl, refl)
tail_dates p a b c (suc (suc (suc (suc (suc (suc (suc (suc (suc (suc (suc (suc zero)))))))))))) h = (refl, refl)
tail_dates p a b c zero h = absurd (omega arith)
tail_dates p a b c (suc (suc (suc (suc (suc (suc (suc (suc (suc (suc (suc (suc (suc k))))))))))))) h = absurd (omega arith)

dates_of : (p : Parts) → IsValid p
    → (rfc3339_bytes (imf_fixdate p) ≡ rfc3339_date p) × (digits_bytes (imf_fixdate p) ≡ digits_date p)
dates_of p is =
    let day = three p.wday (wday_in_range p is) in
    let text : imf_fixdate p ≡ day.0 ∷ day.1 ∷ day.2 ∷ tail_of p = imf_fixdate-tail_of p ∙ ap (λ (t : List ℕ). t ++ tail_of p) day.3 in
    let both = tail_dates p day.0 day.1 day.2 p.mon is.0.1 in
    (ap rfc3339_bytes text ∙ both.0, ap digits_bytes text ∙ both.1)

pub rfc3339_is : (s : ℕ) → IsSecond s → rfc3339_bytes (imf s) ≡ rfc3339 s
unfolding imf rfc3339
rfc3339_is s is = (dates_of (civil_time s) (civil_time-valid s is)).0

pub digits_is : (s : ℕ) → IsSecond s → digits_bytes (imf s) ≡ digits s
unfolding imf digits
digits_is s is = (dates_of (civil_time s) (civil_time-valid s is)).1

-- ---- the text is clean

digit_clean : (b : ℕ) → 48 ≤ b → b ≤ 57 → is_clean_byte b ≡ true
digit_clean b low high = grind (arith, nat_tests)

two_clean : (n : ℕ) → n < 100 → list_all is_clean_byte (two_digits n) ≡ true
two_clean n small = rw (digit_clean (48 + n / 10) (omega arith) (omega arith), digit_clean (48 + n % 10) (omega arith) (omega arith)) refl

all_append : (a b : List ℕ) → list_all is_clean_byte a ≡ true → list_all is_clean_byte b ≡ true → list_all is_clean_byte (a ++ b) ≡ true
all_append a b here there = list_all-append is_clean_byte a b ∙ rw (here, there) refl

date_clean : (p : Parts) → IsValid p → list_all is_clean_byte (rfc3339_date p) ≡ true
date_clean p is =
    let month = two_clean p.mon (omega (arith, is.0.1.1)) in
    let day = two_clean p.day (omega (arith, days_at_most p.year p.mon, is.0.2.1)) in
    let year = all_append (two_digits (p.year / 100)) (two_digits (p.year % 100)) (two_clean (p.year / 100) (omega (arith, is.0.0.1))) (two_clean (p.year % 100) (omega arith)) in
    let hour = two_clean p.hour (omega (arith, is.1.0)) in
    let min = two_clean p.min (omega (arith, is.1.1)) in
    let sec = two_clean p.sec (omega (arith, is.1.2)) in
    let clock = all_append (two_digits p.hour ++ codes ":" ++ two_digits p.min ++ codes ":") (two_digits p.sec)
    (all_append (two_digits p.hour ++ codes ":" ++ two_digits p.min) (codes ":")
    (all_append (two_digits p.hour ++ codes ":") (two_digits p.min) (all_append (two_digits p.hour) (codes ":") hour refl) min) refl) sec in
    let upto_month = all_append (four_digits p.year ++ codes "-") (two_digits p.mon) (all_append (four_digits p.year) (codes "-") year refl) month in
    let upto_day = all_append (four_digits p.year ++ codes "-" ++ two_digits p.mon ++ codes "-") (two_digits p.day)
    (all_append (four_digits p.year ++ codes "-" ++ two_digits p.mon) (codes "-") upto_month refl) day in
    let upto_clock = all_append (four_digits p.year ++ codes "-" ++ two_digits p.mon ++ codes "-" ++ two_digits p.day ++ codes "T") (time_of_day p)
    (all_append (four_digits p.year ++ codes "-" ++ two_digits p.mon ++ codes "-" ++ two_digits p.day) (codes "T") upto_day refl) clock in
    all_append (four_digits p.year ++ codes "-" ++ two_digits p.mon ++ codes "-" ++ two_digits p.day ++ codes "T" ++ time_of_day p) (codes "Z") upto_clock refl

pub rfc3339_clean : (s : ℕ) → IsSecond s → IsClean (rfc3339 s)
unfolding rfc3339
rfc3339_clean s is = ((lit≤ tt, lit≤ tt), clean_bytes (rfc3339 s) (date_clean (civil_time s) (civil_time-valid s is)))

-- the bytes as the code has them, with the month's digits
pub rfc3339_made : (t m : List ℕ) (s : ℕ) → IsSecond s → t ≡ imf s → m ≡ month_of t
    → get_or t 12 0 ∷ get_or t 13 0 ∷ get_or t 14 0 ∷ get_or t 15 0 ∷ 45 ∷ get_or m 0 0 ∷ get_or m 1 0 ∷ 45 ∷ get_or t 5 0 ∷ get_or t 6 0
    ∷ 84 ∷ get_or t 17 0 ∷ get_or t 18 0 ∷ 58 ∷ get_or t 20 0 ∷ get_or t 21 0 ∷ 58 ∷ get_or t 23 0 ∷ get_or t 24 0 ∷ 90 ∷ [] ≡ rfc3339 s
rfc3339_made t m s is text month =
    ap (λ (n : List ℕ). get_or t 12 0 ∷ get_or t 13 0 ∷ get_or t 14 0 ∷ get_or t 15 0 ∷ 45 ∷ get_or n 0 0 ∷ get_or n 1 0 ∷ 45 ∷ get_or t 5 0 ∷ get_or t 6 0
    ∷ 84 ∷ get_or t 17 0 ∷ get_or t 18 0 ∷ 58 ∷ get_or t 20 0 ∷ get_or t 21 0 ∷ 58 ∷ get_or t 23 0 ∷ get_or t 24 0 ∷ 90 ∷ []) month
    ∙ ap rfc3339_bytes text ∙ rfc3339_is s is

pub digits_made : (t m : List ℕ) (s : ℕ) → IsSecond s → t ≡ imf s → m ≡ month_of t
    → get_or t 12 0 ∷ get_or t 13 0 ∷ get_or t 14 0 ∷ get_or t 15 0 ∷ get_or m 0 0 ∷ get_or m 1 0 ∷ get_or t 5 0 ∷ get_or t 6 0
    ∷ get_or t 17 0 ∷ get_or t 18 0 ∷ get_or t 20 0 ∷ get_or t 21 0 ∷ get_or t 23 0 ∷ get_or t 24 0 ∷ [] ≡ digits s
digits_made t m s is text month =
    ap (λ (n : List ℕ). get_or t 12 0 ∷ get_or t 13 0 ∷ get_or t 14 0 ∷ get_or t 15 0 ∷ get_or n 0 0 ∷ get_or n 1 0 ∷ get_or t 5 0 ∷ get_or t 6 0
    ∷ get_or t 17 0 ∷ get_or t 18 0 ∷ get_or t 20 0 ∷ get_or t 21 0 ∷ get_or t 23 0 ∷ get_or t 24 0 ∷ []) month
    ∙ ap digits_bytes text ∙ digits_is s is

-- ---- no two seconds have one text

-- what follows the name of the day, of the bytes of a text and the number of the month
abbrev tail_from : List ℕ → ℕ → List ℕ
tail_from t m =
    44 ∷ 32 ∷ get_or t 8 0 ∷ get_or t 9 0 ∷ 32 ∷ (month_name m ++ 32 ∷ get_or t 0 0 ∷ get_or t 1 0 ∷ get_or t 2 0 ∷ get_or t 3 0
    ∷ 32 ∷ get_or t 11 0 ∷ get_or t 12 0 ∷ 58 ∷ get_or t 14 0 ∷ get_or t 15 0 ∷ 58 ∷ get_or t 17 0 ∷ get_or t 18 0 ∷ 32 ∷ 71 ∷ 77 ∷ 84 ∷ [])

abbrev tail_from_digits : List ℕ → ℕ → List ℕ
tail_from_digits t m =
    44 ∷ 32 ∷ get_or t 6 0 ∷ get_or t 7 0 ∷ 32 ∷ (month_name m ++ 32 ∷ get_or t 0 0 ∷ get_or t 1 0 ∷ get_or t 2 0 ∷ get_or t 3 0
    ∷ 32 ∷ get_or t 8 0 ∷ get_or t 9 0 ∷ 58 ∷ get_or t 10 0 ∷ get_or t 11 0 ∷ 58 ∷ get_or t 12 0 ∷ get_or t 13 0 ∷ 32 ∷ 71 ∷ 77 ∷ 84 ∷ [])

one_second : (s t : ℕ) → IsSecond s → IsSecond t → tail_of (civil_time s) ≡ tail_of (civil_time t) → s ≡ t
one_second s t is it tails =
    let own = Reads-imf s is in
    let rest : drop 3 (imf s) ≡ drop 3 (imf t) = drop-imf s is ∙ tails ∙ sym (drop-imf t it) in
    Reads_unique (imf s) s t own (record { second = it; len = own.len; day = own.day; rest = rest })

pub rfc3339_injective : (s t : ℕ) → IsSecond s → IsSecond t → rfc3339 s ≡ rfc3339 t → s ≡ t
unfolding rfc3339
rfc3339_injective s t is it e =
    let month = from_two (civil_time s).mon (civil_time t).mon (ap (λ (x : List ℕ). get_or x 5 0) e) (ap (λ (x : List ℕ). get_or x 6 0) e) in
    one_second s t is it (λ i. tail_from (e i) (month i))

pub digits_injective : (s t : ℕ) → IsSecond s → IsSecond t → digits s ≡ digits t → s ≡ t
unfolding digits
digits_injective s t is it e =
    let month = from_two (civil_time s).mon (civil_time t).mon (ap (λ (x : List ℕ). get_or x 4 0) e) (ap (λ (x : List ℕ). get_or x 5 0) e) in
    one_second s t is it (λ i. tail_from_digits (e i) (month i))
