-- Dates of one day differ in their clocks alone.
use Rattle.std.proofs.Common.{◌≡◌, ℕ, ◌+◌, ◌*◌, ◌/◌, ◌%◌, ◌<◌, List, [], ◌∷◌, ◌++◌, length, take, drop, length-append, append_assoc, codes, refl, sym, ap, ◌∙◌, arith}
use Rattle.std.proofs.Math.Seq.{take-append_seam, drop-append_seam}
use Rattle.std.proofs.lemmas.List.{take-append-drop, drop-take}
use Rattle.httpdate.specs.Calendar.{weekday}
use Rattle.httpdate.specs.Text.{day_name, month_name, two_digits, four_digits}
use Rattle.memento_time.specs.Civil.{civil_date, civil_time}
use Rattle.memento_time.specs.Clock.{clock_text, day_of}
use Rattle.memento_time.specs.Second.{imf, IsSecond, Reads}
use Rattle.memento_time.proofs.CivilLemmas.{civil_time-valid}
use Rattle.memento_time.proofs.ReadLemmas.{length-day_name, length-month_name, wday_in_range}

-- what stands before the clock, as `Sun, 06 Nov 1994 `
abbrev day_text : ℕ → List ℕ
day_text d =
    let date = civil_date d in
    day_name (weekday d) ++ codes ", " ++ two_digits date.day ++ codes " " ++ month_name date.month ++ codes " "
    ++ four_digits date.year ++ codes " "

imf_parts : (s : ℕ) → imf s ≡ day_text (s / 86400) ++ clock_text s
unfolding imf civil_time clock_text
imf_parts s = simp append_assoc

length-day_text : (s : ℕ) → IsSecond s → length (day_text (s / 86400)) ≡ 17
unfolding civil_time
length-day_text s h =
    let valid = civil_time-valid s h in
    simp length-append (omega (arith, length-day_name _ (wday_in_range _ valid), length-month_name _ valid.0.1))

take_day : (s : ℕ) → IsSecond s → take 17 (imf s) ≡ day_text (s / 86400)
take_day s h = rw (imf_parts s, ← length-day_text s h) (take-append_seam (day_text (s / 86400)) (clock_text s))

drop_day : (s : ℕ) → IsSecond s → drop 17 (imf s) ≡ clock_text s
drop_day s h = rw (imf_parts s, ← length-day_text s h) (drop-append_seam (day_text (s / 86400)) (clock_text s))

-- a second of a day has the clock of its place in it
clock_of_day : (d c : ℕ) → c < 86400 → clock_text (d * 86400 + c) ≡ clock_text c
unfolding clock_text
clock_of_day d c h =
    let hour : (d * 86400 + c) / 3600 % 24 ≡ c / 3600 % 24 = omega arith in
    let minute : (d * 86400 + c) / 60 % 60 ≡ c / 60 % 60 = omega arith in
    let second : (d * 86400 + c) % 60 ≡ c % 60 = omega arith in
    rw (hour, minute, second)

-- what follows the name of the day, parted at the clock
behind_name : (text : List ℕ) → drop 3 text ≡ drop 3 (take 17 text) ++ drop 17 text
behind_name [] = refl
behind_name (a ∷ []) = refl
behind_name (a ∷ b ∷ []) = refl
behind_name (a ∷ b ∷ c ∷ rest) = sym (take-append-drop 14 rest)

front_of : (text other : List ℕ) → drop 3 text ≡ drop 3 other → drop 3 (take 17 text) ≡ drop 3 (take 17 other)
front_of text other e = drop-take 3 14 text ∙ ap (take 14) e ∙ sym (drop-take 3 14 other)

-- the day of a clock put behind the start of a day
pub day_of_clock : (t c : ℕ) → c < 86400 → day_of (t / 86400 * 86400 + c) ≡ day_of t
day_of_clock t c small = omega (arith, small)

-- a text that differs in its clock alone from one that reads as a second of the day
pub Reads_same_day : (text last : List ℕ) (t c : ℕ) → Reads last t → length text ≡ 29 → take 17 text ≡ take 17 last
    → c < 86400 → drop 17 text ≡ clock_text c → Reads text (t / 86400 * 86400 + c)
Reads_same_day text last t c h len front small clock =
    let u = t / 86400 * 86400 + c in
    let second : IsSecond u = omega (arith, h.second) in
    let days : take 17 (imf t) ≡ take 17 (imf u) =
    take_day t h.second ∙ (ap day_text (sym (day_of_clock t c small)) ∙ sym (take_day u second)) in
    let fronts : drop 3 (take 17 text) ≡ drop 3 (take 17 (imf u)) =
    ap (drop 3) front ∙ (front_of last (imf t) h.rest ∙ ap (drop 3) days) in
    let clocks : drop 17 text ≡ drop 17 (imf u) = clock ∙ (sym (clock_of_day (t / 86400) c small) ∙ sym (drop_day u second)) in
    let named : take 3 text ≡ take 3 last = sym (take_take text) ∙ (ap (take 3) front ∙ take_take last) in
    record {
      second = second;
      len = len;
      day = rw named h.day;
      rest = behind_name text ∙ (rw (fronts, clocks) (sym (behind_name (imf u))));
    }
  where
    take_take : (xs : List ℕ) → take 3 (take 17 xs) ≡ take 3 xs
    take_take [] = refl
    take_take (a ∷ []) = refl
    take_take (a ∷ b ∷ []) = refl
    take_take (a ∷ b ∷ c ∷ rest) = refl

-- the day of one second before the clock of another of that day
pub imf_same_day : (s t : ℕ) → IsSecond s → IsSecond t → s / 86400 ≡ t / 86400 → take 17 (imf t) ++ clock_text s ≡ imf s
imf_same_day s t h k e = rw (take_day t k, ← e) (sym (imf_parts s))

pub imf_epoch : codes "Thu, 01 Jan 1970 00:00:00 GMT" ≡ imf 0
unfolding imf civil_time civil_date
imf_epoch = refl
