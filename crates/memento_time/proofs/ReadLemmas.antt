-- A text reads as one second at most, and httpdate's dates of 29 bytes are these.
use Rattle.std.proofs.Common.{◌≡◌, ◌≢◌, Result, Ok, Err, MatchResult, Bor, None, ℕ, zero, suc, ◌+◌, ◌-◌, ◌/◌, ◌%◌, ◌<◌, ◌≤◌, inl, inr, refl, sym, ap}
use Rattle.std.proofs.Common.{◌∙◌, arith, List, [], ◌∷◌, ◌++◌, length, take, drop, length-append, Option, Some, append_assoc, Contains, lit≤, get_or}
use Rattle.std.proofs.Math.Seq.{take-append_seam}
use Rattle.std.proofs.lemmas.List.{get_or_default}
use Rattle.std.proofs.lemmas.Option.{same_Some, none-some}
use Rattle.std.specs.Array.{IsWholeChunk}
use Rattle.std.specs.Result.{result_ok}
use Rattle.std.specs.Int.{IsInRange}
use Rattle.httpdate.specs.Calendar.{weekday}
use Rattle.httpdate.specs.declared.parts.Parts.{Parts}
use Rattle.httpdate.specs.declared.date.HttpDate.{HttpDate}
use Rattle.httpdate.specs.Date.{date_text, unix_secs, IsDateText}
use Rattle.httpdate.specs.Valid.{IsValid, parts_secs}
use Rattle.httpdate.specs.Text.{imf_fixdate, day_name, day_name_rest, month_name, two_digits, four_digits}
use Rattle.httpdate.specs.Reader.{read_name}
use Rattle.httpdate.proofs.ReaderLemmas.{read_name-month_name}
use Rattle.memento_time.specs.Civil.{civil_time}
use Rattle.memento_time.specs.Second.{imf, IsSecond, Reads}
use Rattle.memento_time.specs.Names.{day_names}
use Rattle.memento_time.proofs.CivilLemmas.{civil_time-valid, parts_secs-civil_time, date_text-imf, date_of}

-- what follows the name of the day
abbrev pub tail_of : Parts → List ℕ
tail_of p =
    44 ∷ 32 ∷ (two_digits p.day ++ 32 ∷ (month_name p.mon ++ 32 ∷ (four_digits p.year
    ++ 32 ∷ (two_digits p.hour ++ 58 ∷ (two_digits p.min ++ 58 ∷ (two_digits p.sec ++ 32 ∷ 71 ∷ 77 ∷ 84 ∷ []))))))

pub imf_fixdate-tail_of : (p : Parts) → imf_fixdate p ≡ day_name p.wday ++ tail_of p
imf_fixdate-tail_of p = simp append_assoc

pub length-day_name : (n : ℕ) → IsInRange 1 7 n → length (day_name n) ≡ 3
length-day_name (suc zero) h = refl
length-day_name (suc (suc zero)) h = refl
length-day_name (suc (suc (suc zero))) h = refl
length-day_name (suc (suc (suc (suc zero)))) h = refl
length-day_name (suc (suc (suc (suc (suc zero))))) h = refl
length-day_name (suc (suc (suc (suc (suc (suc zero)))))) h = refl
length-day_name (suc (suc (suc (suc (suc (suc (suc zero))))))) h = refl
length-day_name zero h = absurd (omega arith)
length-day_name (suc (suc (suc (suc (suc (suc (suc (suc k)))))))) h = absurd (omega arith)

length-day_name_rest : (n : ℕ) → IsInRange 1 7 n → 3 ≤ length (day_name_rest n)
length-day_name_rest (suc zero) h = lit≤ tt
length-day_name_rest (suc (suc zero)) h = lit≤ tt
length-day_name_rest (suc (suc (suc zero))) h = lit≤ tt
length-day_name_rest (suc (suc (suc (suc zero)))) h = lit≤ tt
length-day_name_rest (suc (suc (suc (suc (suc zero))))) h = lit≤ tt
length-day_name_rest (suc (suc (suc (suc (suc (suc zero)))))) h = lit≤ tt
length-day_name_rest (suc (suc (suc (suc (suc (suc (suc zero))))))) h = lit≤ tt
length-day_name_rest zero h = absurd (omega arith)
length-day_name_rest (suc (suc (suc (suc (suc (suc (suc (suc k)))))))) h = absurd (omega arith)

pub length-month_name : (n : ℕ) → IsInRange 1 12 n → length (month_name n) ≡ 3
length-month_name (suc zero) h = refl
length-month_name (suc (suc zero)) h = refl
length-month_name (suc (suc (suc zero))) h = refl
length-month_name (suc (suc (suc (suc zero)))) h = refl
length-month_name (suc (suc (suc (suc (suc zero))))) h = refl
length-month_name (suc (suc (suc (suc (suc (suc zero)))))) h = refl
length-month_name (suc (suc (suc (suc (suc (suc (suc zero))))))) h = refl
length-month_name (suc (suc (suc (suc (suc (suc (suc (suc zero)))))))) h = refl
length-month_name (suc (suc (suc (suc (suc (suc (suc (suc (suc zero))))))))) h = refl
length-month_name (suc (suc (suc (suc (suc (suc (suc (suc (suc (suc zero)))))))))) h = refl
length-month_name (suc (suc (suc (suc (suc (suc (suc (suc (suc (suc (suc zero))))))))))) h = refl
length-month_name (suc (suc (suc (suc (suc (suc (suc (suc (suc (suc (suc (suc zero)))))))))))) h = refl
length-month_name zero h = absurd (omega arith)
length-month_name (suc (suc (suc (suc (suc (suc (suc (suc (suc (suc (suc (suc (suc k))))))))))))) h = absurd (omega arith)

drop-append_exact : (n : ℕ) (xs ys : List ℕ) → length xs ≡ n → drop n (xs ++ ys) ≡ ys
drop-append_exact n [] ys e = rw (← e)
drop-append_exact zero (x ∷ xs) ys e = absurd (omega arith)
drop-append_exact (suc n) (x ∷ xs) ys e = drop-append_exact n xs ys (omega arith)

pub drop-imf_fixdate : (p : Parts) → IsInRange 1 7 p.wday → drop 3 (imf_fixdate p) ≡ tail_of p
drop-imf_fixdate p h = rw (imf_fixdate-tail_of p) (drop-append_exact 3 (day_name p.wday) (tail_of p) (length-day_name p.wday h))

abbrev pub from_year : Parts → List ℕ
from_year p = 32 ∷ (four_digits p.year
    ++ 32 ∷ (two_digits p.hour ++ 58 ∷ (two_digits p.min ++ 58 ∷ (two_digits p.sec ++ 32 ∷ 71 ∷ 77 ∷ 84 ∷ []))))

abbrev pub from_month : Parts → List ℕ
from_month p = month_name p.mon ++ from_year p

pub from_two : (a b : ℕ) → 48 + a / 10 ≡ 48 + b / 10 → 48 + a % 10 ≡ 48 + b % 10 → a ≡ b
from_two a b h k = omega arith

from_four : (a b : ℕ) → a / 100 ≡ b / 100 → a % 100 ≡ b % 100 → a ≡ b
from_four a b h k = omega arith

-- the numbers come back from the text
pub tail_of_injective : (p q : Parts) → IsInRange 1 12 p.mon → IsInRange 1 12 q.mon → tail_of p ≡ tail_of q
    → (p.year ≡ q.year) × (p.mon ≡ q.mon) × (p.day ≡ q.day) × (p.hour ≡ q.hour) × (p.min ≡ q.min) × (p.sec ≡ q.sec)
tail_of_injective p q h k e =
    let first : (48 + p.day / 10 ≡ 48 + q.day / 10) × (48 + p.day % 10 ≡ 48 + q.day % 10) × (from_month p ≡ from_month q) = (cc, cc, cc) in
    let month : ◌≡◌ {A = Option (ℕ × List ℕ)} (Some (p.mon, from_year p)) (Some (q.mon, from_year q)) =
    sym (read_name-month_name p.mon (from_year p) h) ∙ ap (read_name month_name 12) first.2 ∙ read_name-month_name q.mon (from_year q) k in
    let pair : ◌≡◌ {A = ℕ × List ℕ} (p.mon, from_year p) (q.mon, from_year q) = same_Some _ _ month in
    let mon : p.mon ≡ q.mon = ap (λ (r : ℕ × List ℕ). r.0) pair in
    let year : from_year p ≡ from_year q = ap (λ (r : ℕ × List ℕ). r.1) pair in
    let a : (48 + p.year / 100 / 10 ≡ 48 + q.year / 100 / 10) × (48 + p.year / 100 % 10 ≡ 48 + q.year / 100 % 10) = (cc, cc) in
    let b : (48 + p.year % 100 / 10 ≡ 48 + q.year % 100 / 10) × (48 + p.year % 100 % 10 ≡ 48 + q.year % 100 % 10) = (cc, cc) in
    let hour : (48 + p.hour / 10 ≡ 48 + q.hour / 10) × (48 + p.hour % 10 ≡ 48 + q.hour % 10) = (cc, cc) in
    let min : (48 + p.min / 10 ≡ 48 + q.min / 10) × (48 + p.min % 10 ≡ 48 + q.min % 10) = (cc, cc) in
    let sec : (48 + p.sec / 10 ≡ 48 + q.sec / 10) × (48 + p.sec % 10 ≡ 48 + q.sec % 10) = (cc, cc) in (
      from_four _ _ (from_two _ _ a.0 a.1) (from_two _ _ b.0 b.1),
      mon,
      from_two _ _ first.0 first.1,
      from_two _ _ hour.0 hour.1,
      from_two _ _ min.0 min.1,
      from_two _ _ sec.0 sec.1,
    )

weekday_in_range : (n : ℕ) → IsInRange 1 7 (weekday n)
weekday_in_range n = (omega arith, omega arith)

pub wday_in_range : (p : Parts) → IsValid p → IsInRange 1 7 p.wday
wday_in_range p h = rw h.2 (weekday_in_range _)

pub drop-imf : (s : ℕ) → IsSecond s → drop 3 (imf s) ≡ tail_of (civil_time s)
unfolding imf
drop-imf s h = drop-imf_fixdate (civil_time s) (wday_in_range _ (civil_time-valid s h))

same_secs : (p q : Parts) → (p.year ≡ q.year) × (p.mon ≡ q.mon) × (p.day ≡ q.day) × (p.hour ≡ q.hour) × (p.min ≡ q.min) × (p.sec ≡ q.sec) → parts_secs p ≡ parts_secs q
same_secs p q e = cc

pub Reads_unique : (text : List ℕ) (s t : ℕ) → Reads text s → Reads text t → s ≡ t
Reads_unique text s t h k =
    let valid = civil_time-valid s h.second in
    let valid_too = civil_time-valid t k.second in
    let same : drop 3 (imf s) ≡ drop 3 (imf t) = sym h.rest ∙ k.rest in
    let tails : tail_of (civil_time s) ≡ tail_of (civil_time t) = sym (drop-imf s h.second) ∙ same ∙ drop-imf t k.second in
    let numbers = tail_of_injective (civil_time s) (civil_time t) valid.0.1 valid_too.0.1 tails in
    let secs : parts_secs (civil_time s) ≡ parts_secs (civil_time t) = same_secs (civil_time s) (civil_time t) numbers in
    sym (parts_secs-civil_time s h.second) ∙ secs ∙ parts_secs-civil_time t k.second

-- of the three formats only IMF-fixdate has 29 bytes
pub only_imf : (text : List ℕ) (d : HttpDate) → length text ≡ 29 → IsDateText text d → text ≡ date_text d
only_imf text d len (inl e) = e
only_imf text d len (inr (inl e)) =
    let day = wday_in_range d.parts (d.civil, d.time, d.right_day) in
    let long = simp length-append at (ap length e.0) in
    absurd (omega (arith, long, length-day_name _ day, length-day_name_rest _ day, length-month_name _ d.civil.1))
only_imf text d len (inr (inr (inl e))) =
    let day = wday_in_range d.parts (d.civil, d.time, d.right_day) in
    let long = simp length-append at (ap length e) in
    absurd (omega (arith, long, length-day_name _ day, length-month_name _ d.civil.1))
only_imf text d len (inr (inr (inr e))) =
    let day = wday_in_range d.parts (d.civil, d.time, d.right_day) in
    let long = simp length-append at (ap length e.0) in
    absurd (omega (arith, long, length-day_name _ day, length-month_name _ d.civil.1))

-- the text that a date shows under any day's name is that of its second
pub Reads_shown : (name text : List ℕ) (d : HttpDate) → length name ≡ 3 → length text ≡ 29 → Contains day_names (take 3 text)
    → name ++ drop 3 text ≡ date_text d → unix_secs d < 253402300800 → Reads text (unix_secs d)
Reads_shown name text d three len day shown bound =
    let second : IsSecond (unix_secs d) = omega arith in
    record {
      second = second;
      len = len;
      day = day;
      rest = sym (drop-append_exact 3 name (drop 3 text) three) ∙ ap (drop 3) (shown ∙ date_text-imf d (unix_secs d) second refl);
    }

day_names_all : (n : ℕ) → IsInRange 1 7 n → get_or day_names (n - 1) [] ≡ day_name n
day_names_all n h = refl

pub length-day_names : (k : ℕ) → k < 7 → length (get_or day_names k []) ≡ 3
length-day_names k h =
    let back : k + 1 - 1 ≡ k = omega arith in
    rw back at (length-day_name (k + 1) (omega arith))

-- a text that reads as some second shows a date under one of the seven names
pub Reads_dated : (text : List ℕ) (s : ℕ) → Reads text s
    → ((k : ℕ) → k < 7 → (d : HttpDate) → ¬ (get_or day_names k [] ++ drop 3 text ≡ date_text d)) → ⊥
unfolding imf
Reads_dated text s h none =
    let valid = civil_time-valid s h.second in
    let day = wday_in_range _ valid in
    let split = imf_fixdate-tail_of (civil_time s) in
    none ((civil_time s).wday - 1) (omega (arith, day)) (date_of s h.second)
    (ap (λ t. day_name (civil_time s).wday ++ t) (h.rest ∙ drop-imf s h.second) ∙ sym split)

-- three bytes one by one
pub take_three : (xs : List ℕ) → 3 ≤ length xs → take 3 xs ≡ get_or xs 0 0 ∷ get_or xs 1 0 ∷ get_or xs 2 0 ∷ []
take_three [] h = absurd (omega arith)
take_three (a ∷ []) h = absurd (omega arith)
take_three (a ∷ b ∷ []) h = absurd (omega arith)
take_three (a ∷ b ∷ c ∷ rest) h = refl

take_front : (name rest : List ℕ) → length name ≡ 3 → take 3 (name ++ rest) ≡ name
take_front name rest e = rw (← e) (take-append_seam name rest)

named : (name rest : List ℕ) (k : ℕ) → k < 7 → get_or day_names k name ≡ name → length name ≡ 3 → Contains day_names (take 3 (name ++ rest))
named name rest k lt e three = rw (take_front name rest three) (k, lt, e)

-- a second's own text reads as it
pub Reads-imf : (s : ℕ) → IsSecond s → Reads (imf s) s
unfolding imf
Reads-imf s h =
    let valid = civil_time-valid s h in
    let day = wday_in_range _ valid in
    let split = imf_fixdate-tail_of (civil_time s) in
    record {
      second = h;
      len = simp length-append (omega (arith, length-day_name _ day, length-month_name _ valid.0.1));
      day = rw split (named (day_name (civil_time s).wday) (tail_of (civil_time s)) ((civil_time s).wday - 1) (omega (arith, day))
          (get_or_default day_names _ _ [] (omega (arith, day))) (length-day_name _ day));
      rest = refl;
    }

-- ---- a text as an array of 29 bytes, where it has as many
pub whole_array : {E : Type 0} (text : List ℕ) (r : Result (Bor (List ℕ)) E) (b : Bor (List ℕ))
    → MatchResult r (λ y. IsWholeChunk text y.now 29) (λ _. length text ≢ 29) → ◌≡◌ {A = Option (Bor (List ℕ))} (Some b) (result_ok r)
    → (b.now ≡ text) × (length text ≡ 29)
whole_array text (Ok y) b h e = (ap (λ (x : Bor (List ℕ)). x.now) (same_Some _ _ e) ∙ h.same, h.long)
whole_array text (Err x) b h e = absurd (cc)

pub no_array : {E : Type 0} (text : List ℕ) (r : Result (Bor (List ℕ)) E) → MatchResult r (λ y. IsWholeChunk text y.now 29) (λ _. length text ≢ 29)
    → ◌≡◌ {A = Option (Bor (List ℕ))} None (result_ok r) → length text ≢ 29
no_array text (Ok y) h e = absurd (none-some _ e)
no_array text (Err x) h e = h
