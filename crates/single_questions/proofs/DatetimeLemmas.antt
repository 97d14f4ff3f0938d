-- The digits of a second are those of its IMF-fixdate.
use Rattle.std.proofs.Common.{◌≡◌, ◌≢◌, ◌==◌, ℕ, zero, suc, List, Option, Some, None, Result, Ok, Err, Bor, take, drop, length}
use Rattle.std.proofs.Common.{if◌then◌else◌, refl, sym, ap, ◌∙◌, arith, lit≤}
use Rattle.std.proofs.lemmas.Option.{same_Some}
use Rattle.std.specs.Array.{IsWholeChunk}
use Rattle.std.specs.Int.{IsInRange}
use Rattle.std.specs.Result.{MatchResult, result_ok}
use Rattle.httpdate.specs.declared.parts.Parts.{Parts}
use Rattle.httpdate.specs.Text.{month_name}
use Rattle.memento_time.specs.Civil.{civil_time}
use Rattle.memento_time.specs.Second.{IsSecond, Reads, imf}
use Rattle.memento_time.specs.SecondOf.{second_of}
use Rattle.memento_time.proofs.CivilLemmas.{civil_time-valid}
use Rattle.memento_time.proofs.ReadLemmas.{tail_of, drop-imf}
use Rattle.memento_time.proofs.SecondOfLemmas.{second_of-Reads}
use Rattle.timemap_formats.specs.Dates.{digits, digits_date}
use Rattle.single_questions.specs.Datetimes.{as_imf, moment_in, moment_of, month_name_of}

-- the parts with the month given by its number
abbrev parts_at : ℕ → Parts → Parts
parts_at m p = record { year = p.year; mon = m; day = p.day; hour = p.hour; min = p.min; sec = p.sec; wday = p.wday }

at_month : (p : Parts) (m : ℕ) → IsInRange 1 12 m
    → (month_name_of (take 2 (drop 4 (digits_date (parts_at m p)))) ≡ Some (month_name m))
    × (drop 3 (as_imf (digits_date (parts_at m p)) (month_name m)) ≡ tail_of (parts_at m p))
at_month p (suc zero) h = (refl, refl)
at_month p (suc (suc zero)) h = (refl, refl)
at_month p (suc (suc (suc zero))) h = (refl, refl)
at_month p (suc (suc (suc (suc zero)))) h = (refl, refl)
at_month p (suc (suc (suc (suc (suc zero))))) h = (refl, refl)
at_month p (suc (suc (suc (suc (suc (suc zero)))))) h = (refl, refl)
at_month p (suc (suc (suc (suc (suc (suc (suc zero))))))) h = (refl, refl)
at_month p (suc (suc (suc (suc (suc (suc (suc (suc zero)))))))) h = (refl, refl)
at_month p (suc (suc (suc (suc (suc (suc (suc (suc (suc zero))))))))) h = (refl, refl)
at_month p (suc (suc (suc (suc (suc (suc (suc (suc (suc (suc zero)))))))))) h = (refl, refl)
at_month p (suc (suc (suc (suc (suc (suc (suc (suc (suc (suc (suc zero))))))))))) h = (refl, refl)
at_month p (suc (suc (suc (suc (suc (suc (suc (suc (suc (suc (suc (suc zero)))))))))))) h = (refl, refl)
at_month p zero h = absurd (omega arith)
at_month p (suc (suc (suc (suc (suc (suc (suc (suc (suc (suc (suc (suc (suc k))))))))))))) h = absurd (omega arith)

pub digits_read : (s : ℕ) → IsSecond s → moment_of (digits s) ≡ Some s
unfolding digits moment_of
digits_read s is =
    let p = civil_time s in
    let both = at_month p p.mon (civil_time-valid s is).0.1 in
    let reads : Reads (as_imf (digits_date p) (month_name p.mon)) s = record {
      second = is;
      len = refl;
      day = (0, lit≤ tt, refl);
      rest = both.1 ∙ sym (drop-imf s is);
    } in
    ap (λ (month : Option (List ℕ)). moment_in (digits_date p) month) both.0
    ∙ second_of-Reads (as_imf (digits_date p) (month_name p.mon)) s reads

-- fourteen bytes that were taken of a text are the text
pub whole_array : {E : Type 0} (text : List ℕ) (b : Bor (List ℕ)) (r : Result (Bor (List ℕ)) E)
    → MatchResult r (λ y. IsWholeChunk text y.now 14) (λ _. length text ≢ 14) → ◌≡◌ {A = Option (Bor (List ℕ))} (Some b) (result_ok r)
    → (b.now ≡ text) × (length text ≡ 14)
whole_array text b (Ok y) whole same = (ap (λ (x : Bor (List ℕ)). x.now) (same_Some _ _ same) ∙ whole.same, whole.long)
whole_array text b (Err e) whole same = absurd (cc)

-- what is read of a text with a month is the moment that the text names
pub moment_read : (text digits month imf : List ℕ) (named : Option (List ℕ)) (read : Option ℕ) → digits ≡ text → length text ≡ 14
    → named ≡ month_name_of (take 2 (drop 4 text)) → named ≡ Some month → imf ≡ as_imf digits month → read ≡ second_of imf
    → read ≡ moment_of text
unfolding moment_of
moment_read text digits month imf named read same long of is made second =
    second ∙ ap second_of (made ∙ ap (λ (t : List ℕ). as_imf t month) same)
    ∙ ap (λ (m : Option (List ℕ)). moment_in text m) (sym is ∙ of)
    ∙ sym (ap (λ (n : ℕ). if n == 14 then moment_in text (month_name_of (take 2 (drop 4 text))) else None) long)
