-- The texts that pass the test of dates before 1970 are the IMF-fixdates of those years.
use Rattle.std.proofs.Common.{◌≡◌, ℕ, zero, suc, ◌+◌, ◌-◌, ◌*◌, ◌/◌, ◌%◌, ◌<◌, ◌≤◌, true, false, ◌==◌, nat_lt, List, [], ◌∷◌, ◌++◌, length, take, drop, get_or, refl, sym, ap, ◌∙◌, arith}
use Rattle.std.proofs.lemmas.Bool.{and_parts, ltb-true, and_from}
use Rattle.std.proofs.lemmas.Bool.Decides.{Decides-eqb, nat_tests}
use Rattle.std.proofs.lemmas.Slice.Eq.{bytes_eq-Decides}
use Rattle.std.proofs.lemmas.List.{length-take, take-append-drop, nil_from_length}
use Rattle.std.specs.Char.{is_ascii_digit}
use Rattle.std.specs.Int.{IsInRange}
use Rattle.std.specs.List.{list_any, list_all, zip}
use Rattle.std.specs.Str.{bytes_eq}
use Rattle.httpdate.specs.declared.parts.Parts.{Parts}
use Rattle.httpdate.specs.Text.{day_name, month_name, two_digits, four_digits}
use Rattle.memento_time.specs.BeforeEpoch.{date_form, fits, is_name, is_year_before_1970, is_before_epoch, IsBeforeEpoch}
use Rattle.memento_time.specs.Names.{day_names, month_names}
use Rattle.memento_time.specs.Civil.{civil_time}
use Rattle.memento_time.specs.Second.{Reads}
use Rattle.memento_time.proofs.CivilLemmas.{civil_time-valid, days_at_most}
use Rattle.memento_time.proofs.ReadLemmas.{tail_of, drop-imf, imf_fixdate-tail_of, length-day_name, length-month_name}

-- ---- bytes

digit_bounds : (b : ℕ) → is_ascii_digit b ≡ true → (48 ≤ b) × (b ≤ 57)
digit_bounds b e = (grind (arith, nat_tests), grind (arith, nat_tests))

is_digit : (n : ℕ) → n < 10 → is_ascii_digit (48 + n) ≡ true
is_digit n h = grind (arith, nat_tests)

two_of : (x y : ℕ) (rest : List ℕ) → is_ascii_digit x ≡ true → is_ascii_digit y ≡ true → x ∷ y ∷ rest ≡ two_digits ((x - 48) * 10 + (y - 48)) ++ rest
two_of x y rest h k =
    let hx = digit_bounds x h in
    let hy = digit_bounds y k in
    let high : 48 + ((x - 48) * 10 + (y - 48)) / 10 ≡ x = omega (arith, hx, hy) in
    let low : 48 + ((x - 48) * 10 + (y - 48)) % 10 ≡ y = omega (arith, hx, hy) in
    rw (high, low)

three : (xs : List ℕ) → length xs ≡ 3 → (a : ℕ) × (b : ℕ) × (c : ℕ) × (xs ≡ a ∷ b ∷ c ∷ [])
three [] h = absurd (omega arith)
three (a ∷ []) h = absurd (omega arith)
three (a ∷ b ∷ []) h = absurd (omega arith)
three (a ∷ b ∷ c ∷ []) h = (a, b, c, refl)
three (a ∷ b ∷ c ∷ d ∷ rest) h = absurd (omega arith)

-- ---- names

named_in : (name : List ℕ) (names : List (List ℕ)) → list_any (λ n. bytes_eq n name) names ≡ true → (k : ℕ) × (k < length names) × (get_or names k [] ≡ name)
named_in name [] e = absurd (cc)
named_in name (x ∷ xs) e =
    elim (bytes_eq x name) as (λ b. bytes_eq x name ≡ b → (k : ℕ) × (k < length (x ∷ xs)) × (get_or (x ∷ xs) k [] ≡ name)) [
      | true ↦ λ f. (0, omega arith, (bytes_eq-Decides x name).0 f)
      | false ↦ λ f. let later = named_in name xs (rw f at e) in (suc later.0, omega (arith, later.1), later.2)
    ] refl

day_of : (name : List ℕ) → is_name day_names name ≡ true → (n : ℕ) × IsInRange 1 7 n × (name ≡ day_name n)
day_of name e =
    let found = named_in name day_names e in
    let back : found.0 + 1 - 1 ≡ found.0 = omega arith in
    (found.0 + 1, (omega arith, omega (arith, found.1)), rw back (sym found.2))

month_of : (name : List ℕ) → is_name month_names name ≡ true → (n : ℕ) × IsInRange 1 12 n × (name ≡ month_name n)
month_of name e =
    let found = named_in name month_names e in
    let back : found.0 + 1 - 1 ≡ found.0 = omega arith in
    (found.0 + 1, (omega arith, omega (arith, found.1)), rw back (sym found.2))

is_day : (n : ℕ) → IsInRange 1 7 n → is_name day_names (day_name n) ≡ true
is_day (suc zero) h = refl
is_day (suc (suc zero)) h = refl
is_day (suc (suc (suc zero))) h = refl
is_day (suc (suc (suc (suc zero)))) h = refl
is_day (suc (suc (suc (suc (suc zero))))) h = refl
is_day (suc (suc (suc (suc (suc (suc zero)))))) h = refl
is_day (suc (suc (suc (suc (suc (suc (suc zero))))))) h = refl
is_day zero h = absurd (omega arith)
is_day (suc (suc (suc (suc (suc (suc (suc (suc k)))))))) h = absurd (omega arith)

is_month : (n : ℕ) → IsInRange 1 12 n → is_name month_names (month_name n) ≡ true
is_month (suc zero) h = refl
is_month (suc (suc zero)) h = refl
is_month (suc (suc (suc zero))) h = refl
is_month (suc (suc (suc (suc zero)))) h = refl
is_month (suc (suc (suc (suc (suc zero))))) h = refl
is_month (suc (suc (suc (suc (suc (suc zero)))))) h = refl
is_month (suc (suc (suc (suc (suc (suc (suc zero))))))) h = refl
is_month (suc (suc (suc (suc (suc (suc (suc (suc zero)))))))) h = refl
is_month (suc (suc (suc (suc (suc (suc (suc (suc (suc zero))))))))) h = refl
is_month (suc (suc (suc (suc (suc (suc (suc (suc (suc (suc zero)))))))))) h = refl
is_month (suc (suc (suc (suc (suc (suc (suc (suc (suc (suc (suc zero))))))))))) h = refl
is_month (suc (suc (suc (suc (suc (suc (suc (suc (suc (suc (suc (suc zero)))))))))))) h = refl
is_month zero h = absurd (omega arith)
is_month (suc (suc (suc (suc (suc (suc (suc (suc (suc (suc (suc (suc (suc k))))))))))))) h = absurd (omega arith)

-- ---- years

year_digits : (p q r s n : ℕ) → p < 10 → q < 10 → r < 10 → s < 10 → n ≡ p * 1000 + q * 100 + r * 10 + s
    → is_year_before_1970 ((48 + p) ∷ (48 + q) ∷ (48 + r) ∷ (48 + s) ∷ []) ≡ nat_lt n 1970
year_digits p q r s n hp hq hr hs e = grind (arith, nat_tests)

year_test : (n : ℕ) → n < 10000 → is_year_before_1970 (four_digits n) ≡ nat_lt n 1970
year_test n h = year_digits (n / 100 / 10) (n / 100 % 10) (n % 100 / 10) (n % 100 % 10) n (omega arith) (omega arith) (omega arith) (omega arith) (omega arith)

-- ---- a text along its form

record Fits (text form : List ℕ) : Type 0 where
  pub len : length text ≡ length form
  pub all : list_all fits (zip text form) ≡ true

head_fits : (text : List ℕ) (c : ℕ) (form : List ℕ) → Fits text (c ∷ form)
    → (x : ℕ) × (rest : List ℕ) × (text ≡ x ∷ rest) × (fits (x, c) ≡ true) × Fits rest form
head_fits [] c form h = absurd (omega (arith, h.len))
head_fits (x ∷ xs) c form h =
    let parts : (fits (x, c) ≡ true) × (list_all fits (zip xs form) ≡ true) = and_parts _ _ h.all in
    (x, xs, refl, parts.0, record { len = omega (arith, h.len); all = parts.1 })

-- a byte that stands as it is
same_fits : (c : ℕ) (text form : List ℕ) → c == 63 ≡ false → c == 48 ≡ false → Fits text (c ∷ form) → (rest : List ℕ) × (text ≡ c ∷ rest) × Fits rest form
same_fits c text form no_name no_digit h =
    let first = head_fits text c form h in
    let is_same : first.0 == c ≡ true = rw (no_name, no_digit) at first.3 in
    let same : first.0 ≡ c = (Decides-eqb first.0 c).0 is_same in
    (first.1, first.2 ∙ ap (λ x. x ∷ first.1) same, first.4)

two_fit : (text form : List ℕ) → Fits text (48 ∷ 48 ∷ form) → (n : ℕ) × (rest : List ℕ) × (n < 100) × (text ≡ two_digits n ++ rest) × Fits rest form
two_fit text form h =
    let high = head_fits text 48 (48 ∷ form) h in
    let low = head_fits high.1 48 form high.4 in
    let high_bounds = digit_bounds high.0 high.3 in
    let low_bounds = digit_bounds low.0 low.3 in (
      (high.0 - 48) * 10 + (low.0 - 48),
      low.1,
      omega (arith, high_bounds, low_bounds),
      high.2 ∙ ap (λ rest. high.0 ∷ rest) low.2 ∙ two_of high.0 low.0 low.1 high.3 low.3,
      low.4,
    )

three_fit : (text form : List ℕ) → Fits text (63 ∷ 63 ∷ 63 ∷ form) → (a : ℕ) × (b : ℕ) × (c : ℕ) × (rest : List ℕ) × (text ≡ a ∷ b ∷ c ∷ rest) × Fits rest form
three_fit text form h =
    let a = head_fits text 63 (63 ∷ 63 ∷ form) h in
    let b = head_fits a.1 63 (63 ∷ form) a.4 in
    let c = head_fits b.1 63 form b.4 in
    (a.0, b.0, c.0, c.1, a.2 ∙ ap (λ rest. a.0 ∷ rest) b.2 ∙ ap (λ rest. a.0 ∷ b.0 ∷ rest) c.2, c.4)

day_fits : (text form : List ℕ) → Fits text (63 ∷ 63 ∷ 63 ∷ 44 ∷ 32 ∷ 48 ∷ 48 ∷ 32 ∷ form)
    → (a : ℕ) × (b : ℕ) × (c : ℕ) × (n : ℕ) × (rest : List ℕ) × (n < 100) × (text ≡ a ∷ b ∷ c ∷ 44 ∷ 32 ∷ (two_digits n ++ 32 ∷ rest)) × Fits rest form
day_fits text form h =
    let name = three_fit text (44 ∷ 32 ∷ 48 ∷ 48 ∷ 32 ∷ form) h in
    let comma = same_fits 44 name.3 (32 ∷ 48 ∷ 48 ∷ 32 ∷ form) refl refl name.5 in
    let space = same_fits 32 comma.0 (48 ∷ 48 ∷ 32 ∷ form) refl refl comma.2 in
    let day = two_fit space.0 (32 ∷ form) space.2 in
    let after = same_fits 32 day.1 form refl refl day.4 in (
      name.0,
      name.1,
      name.2,
      day.0,
      after.0,
      day.2,
      name.4
          ∙ ap (λ rest. name.0 ∷ name.1 ∷ name.2 ∷ rest) (comma.1 ∙ ap (λ rest. 44 ∷ rest) (space.1 ∙ ap (λ rest. 32 ∷ rest) (day.3 ∙ ap (λ rest. two_digits day.0 ++ rest) after.1))),
      after.2,
    )

four_of : (a b : ℕ) (rest : List ℕ) → a < 100 → b < 100 → two_digits a ++ (two_digits b ++ rest) ≡ four_digits (a * 100 + b) ++ rest
four_of a b rest h k =
    let high : (a * 100 + b) / 100 ≡ a = omega arith in
    let low : (a * 100 + b) % 100 ≡ b = omega arith in
    rw (high, low)

month_fits : (text form : List ℕ) → Fits text (63 ∷ 63 ∷ 63 ∷ 32 ∷ 48 ∷ 48 ∷ 48 ∷ 48 ∷ 32 ∷ form)
    → (a : ℕ) × (b : ℕ) × (c : ℕ) × (n : ℕ) × (rest : List ℕ) × (n < 10000) × (text ≡ a ∷ b ∷ c ∷ 32 ∷ (four_digits n ++ 32 ∷ rest)) × Fits rest form
month_fits text form h =
    let name = three_fit text (32 ∷ 48 ∷ 48 ∷ 48 ∷ 48 ∷ 32 ∷ form) h in
    let space = same_fits 32 name.3 (48 ∷ 48 ∷ 48 ∷ 48 ∷ 32 ∷ form) refl refl name.5 in
    let high = two_fit space.0 (48 ∷ 48 ∷ 32 ∷ form) space.2 in
    let low = two_fit high.1 (32 ∷ form) high.4 in
    let after = same_fits 32 low.1 form refl refl low.4 in
    let year : space.0 ≡ four_digits (high.0 * 100 + low.0) ++ 32 ∷ after.0 =
    high.3 ∙ ap (λ rest. two_digits high.0 ++ rest) (low.3 ∙ ap (λ rest. two_digits low.0 ++ rest) after.1) ∙ four_of high.0 low.0 (32 ∷ after.0) high.2 low.2 in (
      name.0,
      name.1,
      name.2,
      high.0 * 100 + low.0,
      after.0,
      omega (arith, high.2, low.2),
      name.4 ∙ ap (λ rest. name.0 ∷ name.1 ∷ name.2 ∷ rest) (space.1 ∙ ap (λ rest. 32 ∷ rest) year),
      after.2,
    )

clock_fits : (text form : List ℕ) → Fits text (48 ∷ 48 ∷ 58 ∷ 48 ∷ 48 ∷ 58 ∷ 48 ∷ 48 ∷ form)
    → (hour : ℕ) × (min : ℕ) × (sec : ℕ) × (rest : List ℕ) × ((hour < 100) × (min < 100) × (sec < 100))
    × (text ≡ two_digits hour ++ 58 ∷ (two_digits min ++ 58 ∷ (two_digits sec ++ rest))) × Fits rest form
clock_fits text form h =
    let hour = two_fit text (58 ∷ 48 ∷ 48 ∷ 58 ∷ 48 ∷ 48 ∷ form) h in
    let colon = same_fits 58 hour.1 (48 ∷ 48 ∷ 58 ∷ 48 ∷ 48 ∷ form) refl refl hour.4 in
    let min = two_fit colon.0 (58 ∷ 48 ∷ 48 ∷ form) colon.2 in
    let next = same_fits 58 min.1 (48 ∷ 48 ∷ form) refl refl min.4 in
    let sec = two_fit next.0 form next.2 in (
      hour.0,
      min.0,
      sec.0,
      sec.1,
      (hour.2, min.2, sec.2),
      hour.3
          ∙ ap (λ rest. two_digits hour.0 ++ rest) (colon.1 ∙ ap (λ rest. 58 ∷ rest) (min.3 ∙ ap (λ rest. two_digits min.0 ++ rest) (next.1 ∙ ap (λ rest. 58 ∷ rest) sec.3))),
      sec.4,
    )

zone_fits : (text : List ℕ) → Fits text (32 ∷ 71 ∷ 77 ∷ 84 ∷ []) → text ≡ 32 ∷ 71 ∷ 77 ∷ 84 ∷ []
zone_fits text h =
    let space = same_fits 32 text (71 ∷ 77 ∷ 84 ∷ []) refl refl h in
    let g = same_fits 71 space.0 (77 ∷ 84 ∷ []) refl refl space.2 in
    let m = same_fits 77 g.0 (84 ∷ []) refl refl g.2 in
    let t = same_fits 84 m.0 [] refl refl m.2 in
    space.1 ∙ ap (λ rest. 32 ∷ rest) (g.1 ∙ ap (λ rest. 71 ∷ rest) (m.1 ∙ ap (λ rest. 77 ∷ rest) (t.1 ∙ ap (λ rest. 84 ∷ rest) (nil_from_length t.0 t.2.len))))

-- ---- and_from ways

-- a text with this form, these names and an early year
early_parts : (text : List ℕ) → Fits text date_form → is_name day_names (take 3 text) ≡ true → is_name month_names (take 3 (drop 8 text)) ≡ true
    → is_year_before_1970 (take 4 (drop 12 text)) ≡ true → IsBeforeEpoch text
early_parts text form day month year =
    let d = day_fits text (63 ∷ 63 ∷ 63 ∷ 32 ∷ 48 ∷ 48 ∷ 48 ∷ 48 ∷ 32 ∷ 48 ∷ 48 ∷ 58 ∷ 48 ∷ 48 ∷ 58 ∷ 48 ∷ 48 ∷ 32 ∷ 71 ∷ 77 ∷ 84 ∷ []) form in
    let m = month_fits d.4 (48 ∷ 48 ∷ 58 ∷ 48 ∷ 48 ∷ 58 ∷ 48 ∷ 48 ∷ 32 ∷ 71 ∷ 77 ∷ 84 ∷ []) d.7 in
    let t = clock_fits m.4 (32 ∷ 71 ∷ 77 ∷ 84 ∷ []) m.7 in
    let clock : m.4 ≡ two_digits t.0 ++ 58 ∷ (two_digits t.1 ++ 58 ∷ (two_digits t.2 ++ 32 ∷ 71 ∷ 77 ∷ 84 ∷ [])) =
    t.5 ∙ ap (λ rest. two_digits t.0 ++ 58 ∷ (two_digits t.1 ++ 58 ∷ (two_digits t.2 ++ rest))) (zone_fits t.3 t.6) in
    let whole : text ≡ d.0 ∷ d.1 ∷ d.2 ∷ 44 ∷ 32 ∷ (two_digits d.3
    ++ 32 ∷ m.0 ∷ m.1 ∷ m.2 ∷ 32 ∷ (four_digits m.3 ++ 32 ∷
    (two_digits t.0 ++ 58 ∷ (two_digits t.1 ++ 58 ∷ (two_digits t.2 ++ 32 ∷ 71 ∷ 77 ∷ 84 ∷ []))))) =
    d.6
    ∙ ap (λ rest. d.0 ∷ d.1 ∷ d.2 ∷ 44 ∷ 32 ∷ (two_digits d.3 ++ 32 ∷ rest)) (m.6 ∙ ap (λ rest. m.0 ∷ m.1 ∷ m.2 ∷ 32 ∷ (four_digits m.3 ++ 32 ∷ rest)) clock) in
    let wday = day_of (d.0 ∷ d.1 ∷ d.2 ∷ []) (sym (ap (λ xs. is_name day_names (take 3 xs)) whole) ∙ day) in
    let mon = month_of (m.0 ∷ m.1 ∷ m.2 ∷ []) (sym (ap (λ xs. is_name month_names (take 3 (drop 8 xs))) whole) ∙ month) in
    let early : nat_lt m.3 1970 ≡ true = sym (year_test m.3 m.5) ∙ sym (ap (λ xs. is_year_before_1970 (take 4 (drop 12 xs))) whole) ∙ year in
    let date : Parts = record { year = m.3; mon = mon.0; day = d.3; hour = t.0; min = t.1; sec = t.2; wday = wday.0 } in
    record {
      date = date;
      weekday = wday.1;
      month = mon.1;
      year = ltb-true _ _ early;
      numbers = (d.5, t.4.0, t.4.1, t.4.2);
      shown = whole
          ∙ ap (λ name. name ++ 44 ∷ 32 ∷ (two_digits d.3 ++ 32 ∷ m.0 ∷ m.1 ∷ m.2 ∷ 32 ∷
          (four_digits m.3 ++ 32 ∷ (two_digits t.0 ++ 58 ∷ (two_digits t.1 ++ 58 ∷ (two_digits t.2 ++ 32 ∷ 71 ∷ 77 ∷ 84 ∷ [])))))) wday.2
          ∙ ap (λ name. day_name wday.0 ++ 44 ∷ 32 ∷ (two_digits d.3
          ++ 32 ∷ (name ++ 32 ∷ (four_digits m.3 ++ 32 ∷
          (two_digits t.0 ++ 58 ∷ (two_digits t.1 ++ 58 ∷ (two_digits t.2 ++ 32 ∷ 71 ∷ 77 ∷ 84 ∷ []))))))) mon.2
          ∙ sym (imf_fixdate-tail_of date);
    }

pub early-IsBeforeEpoch : (text : List ℕ) → is_before_epoch text ≡ true → IsBeforeEpoch text
unfolding is_before_epoch
early-IsBeforeEpoch text e =
    let by_year = and_parts _ _ e in
    let by_month = and_parts _ _ by_year.0 in
    let by_day = and_parts _ _ by_month.0 in
    let by_form = and_parts _ _ by_day.0 in
    early_parts text (record { len = (Decides-eqb (length text) 29).0 by_form.0; all = by_form.1 }) by_day.1 by_month.1 by_year.1

-- the numbers that the text has at the digits' places
digits_fit : (a b c e f g day year hour min sec : ℕ) → day < 100 → year < 10000 → hour < 100 → min < 100 → sec < 100
    → list_all fits (zip (a ∷ b ∷ c ∷ 44 ∷ 32 ∷ (two_digits day
    ++ 32 ∷ e ∷ f ∷ g ∷ 32 ∷ (four_digits year ++ 32 ∷ (two_digits hour
    ++ 58 ∷ (two_digits min ++ 58 ∷ (two_digits sec ++ 32 ∷ 71 ∷ 77 ∷ 84 ∷ [])))))) date_form) ≡ true
digits_fit a b c e f g day year hour min sec hd hy hh hm hs =
    rw (
      is_digit (day / 10) (omega arith),
      is_digit (day % 10) (omega arith),
      is_digit (year / 100 / 10) (omega arith),
      is_digit (year / 100 % 10) (omega arith),
      is_digit (year % 100 / 10) (omega arith),
      is_digit (year % 100 % 10) (omega arith),
      is_digit (hour / 10) (omega arith),
      is_digit (hour % 10) (omega arith),
      is_digit (min / 10) (omega arith),
      is_digit (min % 10) (omega arith),
      is_digit (sec / 10) (omega arith),
      is_digit (sec % 10) (omega arith),
    )

bytes_early : (a b c e f g day year hour min sec : ℕ) → day < 100 → year < 10000 → hour < 100 → min < 100 → sec < 100
    → is_name day_names (a ∷ b ∷ c ∷ []) ≡ true → is_name month_names (e ∷ f ∷ g ∷ []) ≡ true → is_year_before_1970 (four_digits year) ≡ true
    → is_before_epoch (a ∷ b ∷ c ∷ 44 ∷ 32 ∷ (two_digits day
    ++ 32 ∷ e ∷ f ∷ g ∷ 32 ∷ (four_digits year ++ 32 ∷ (two_digits hour
    ++ 58 ∷ (two_digits min ++ 58 ∷ (two_digits sec ++ 32 ∷ 71 ∷ 77 ∷ 84 ∷ [])))))) ≡ true
unfolding is_before_epoch
bytes_early a b c e f g day year hour min sec hd hy hh hm hs name month early =
    and_from _ _ (and_from _ _ (and_from _ _ (and_from _ _ refl (digits_fit a b c e f g day year hour min sec hd hy hh hm hs)) name) month) early

pub IsBeforeEpoch-early : (text : List ℕ) → IsBeforeEpoch text → is_before_epoch text ≡ true
IsBeforeEpoch-early text h =
    let p = h.date in
    let d = three (day_name p.wday) (length-day_name p.wday h.weekday) in
    let m = three (month_name p.mon) (length-month_name p.mon h.month) in
    let most : p.year < 10000 = omega (arith, h.year) in
    let is_early : nat_lt p.year 1970 ≡ true = grind (arith, nat_tests, h.year) in
    let whole : text ≡ d.0 ∷ d.1 ∷ d.2 ∷ 44 ∷ 32 ∷ (two_digits p.day
    ++ 32 ∷ m.0 ∷ m.1 ∷ m.2 ∷ 32 ∷ (four_digits p.year ++ 32 ∷
    (two_digits p.hour ++ 58 ∷ (two_digits p.min ++ 58 ∷ (two_digits p.sec ++ 32 ∷ 71 ∷ 77 ∷ 84 ∷ []))))) =
    h.shown ∙ imf_fixdate-tail_of p ∙ ap (λ name. name ++ tail_of p) d.3
    ∙ ap (λ name. d.0 ∷ d.1 ∷ d.2 ∷ 44 ∷ 32 ∷ (two_digits p.day
    ++ 32 ∷ (name ++ 32 ∷ (four_digits p.year ++ 32 ∷ (two_digits p.hour
    ++ 58 ∷ (two_digits p.min ++ 58 ∷ (two_digits p.sec ++ 32 ∷ 71 ∷ 77 ∷ 84 ∷ []))))))) m.3 in
    ap is_before_epoch whole
    ∙ bytes_early d.0 d.1 d.2 m.0 m.1 m.2 p.day p.year p.hour p.min p.sec h.numbers.0 most h.numbers.1 h.numbers.2 h.numbers.3
    (sym (ap (is_name day_names) d.3) ∙ is_day p.wday h.weekday) (sym (ap (is_name month_names) m.3) ∙ is_month p.mon h.month)
    (year_test p.year most ∙ is_early)

-- ---- texts that are read

-- a text that reads as a second has the form
pub Reads_fits : (text : List ℕ) (s : ℕ) → Reads text s → list_all fits (zip text date_form) ≡ true
Reads_fits text s h =
    let p = civil_time s in
    let valid = civil_time-valid s h.second in
    let d = three (take 3 text) (omega (arith, h.len, length-take 3 text)) in
    let m = three (month_name p.mon) (length-month_name p.mon valid.0.1) in
    let day : p.day < 100 = omega (arith, valid.0.2.1, days_at_most p.year p.mon) in
    let year : p.year < 10000 = omega (arith, valid.0.0.1) in
    let whole : text ≡ d.0 ∷ d.1 ∷ d.2 ∷ 44 ∷ 32 ∷ (two_digits p.day
    ++ 32 ∷ m.0 ∷ m.1 ∷ m.2 ∷ 32 ∷ (four_digits p.year ++ 32 ∷
    (two_digits p.hour ++ 58 ∷ (two_digits p.min ++ 58 ∷ (two_digits p.sec ++ 32 ∷ 71 ∷ 77 ∷ 84 ∷ []))))) =
    sym (take-append-drop 3 text) ∙ ap (λ name. name ++ drop 3 text) d.3 ∙ ap (λ rest. d.0 ∷ d.1 ∷ d.2 ∷ rest) (h.rest ∙ drop-imf s h.second)
    ∙ ap (λ name. d.0 ∷ d.1 ∷ d.2 ∷ 44 ∷ 32 ∷ (two_digits p.day
    ++ 32 ∷ (name ++ 32 ∷ (four_digits p.year ++ 32 ∷ (two_digits p.hour
    ++ 58 ∷ (two_digits p.min ++ 58 ∷ (two_digits p.sec ++ 32 ∷ 71 ∷ 77 ∷ 84 ∷ []))))))) m.3 in
    ap (λ t. list_all fits (zip t date_form)) whole
    ∙ digits_fit d.0 d.1 d.2 m.0 m.1 m.2 p.day p.year p.hour p.min p.sec day year (omega (arith, valid.1.0)) (omega (arith, valid.1.1)) (omega (arith, valid.1.2))
