-- What decimals are read as.
use Rattle.std.proofs.Common.{◌≡◌, ℕ, ◌+◌, ◌-◌, ◌*◌, ◌^◌, ◌<◌, ◌≤◌, zero, suc, Bool, true, false, ◌&&◌, nat_lt, if◌then◌else◌, List, [], ◌∷◌, ◌++◌, length, get_or}
use Rattle.std.proofs.Common.{take, drop, Option, None, Some, IfSome, IfNone, refl, sym, ap, subst, ◌∙◌, arith}
use Rattle.std.specs.Prelude.{◌↔◌, bytes_eq}
use Rattle.std.proofs.Math.Seq.{take-append_seam, drop-append_seam}
use Rattle.std.specs.Int.{IsInRange}
use Rattle.std.specs.Fmt.{decimal}
use Rattle.std.specs.Char.{digit_value}
use Rattle.std.specs.Str.Parse.{AllDigits, digits_value}
use Rattle.std.proofs.lemmas.Grind.{common_steps}
use Rattle.std.proofs.lemmas.Option.{same_Some}
use Rattle.std.proofs.lemmas.Slice.Eq.{bytes_eq-Decides}
use Rattle.std.proofs.lemmas.Str.{digit_value_digit}
use Rattle.std.proofs.lemmas.Str.Parse.{IsNumeralModel, tells_digits, numerals_by_value, digit_at, digits_value-take-le, digits_value_short}
use Rattle.std.proofs.lemmas.Int.Digits.{digits_more, digits_value_more}
use Rattle.std.proofs.lemmas.Fmt.{decimal-digits_value, digits_decimal, digits_value-decimal, decimal_nonempty, first_decimal, decimal_digit, decimal_injective}
use Rattle.std.proofs.lemmas.List.{append-nil, get_or_default, get_or-take, get_or-drop, length-append, length-drop, length-take-le, take-append-drop, take-take}
use Rattle.text_fields.specs.Parts.{Lacks}
use Rattle.text_fields.specs.Finds.{Finds}
use Rattle.text_fields.specs.Decimals.{IsDecimal, number_of, BeginsOtherwise, BeginsWithDecimal, Writes, IsTooLarge}

own : IsNumeralModel (AllDigits 10) (digits_value 10)
own = numerals_by_value (AllDigits 10) tells_digits

-- a decimal has digits alone
pub decimal_digits : (n : ℕ) → n < 2 ^ 64 → AllDigits 10 (decimal n)
decimal_digits n small = digits_decimal own n small

-- one more digit counts ones, and those before it ten times as much
value_at : (digits : List ℕ) (i : ℕ) → i < length digits → IsInRange 48 57 (get_or digits i 0) → digits_value 10 (take (i + 1) digits) ≡ digits_value 10 (take i digits) * 10 + (get_or digits i 0 - 48)
value_at digits i lt range =
    let value = digit_value_digit (get_or digits i 0) range in
    let same : digit_value (get_or digits i 0) ≡ get_or digits i 0 - 48 = omega arith in
    digits_value_more 10 digits i lt ∙ ap (λ (d : ℕ). digits_value 10 (take i digits) * 10 + d) same

-- one more digit is read
pub writes_more : (text : List ℕ) (count number next : ℕ) → count < length text → Writes text count number → IsInRange 48 57 (get_or text count 0)
    → number * 10 + (get_or text count 0 - 48) ≡ next → next < 2 ^ 64 → Writes text (count + 1) next
writes_more text count number next lt so_far range step below =
    let value = digit_value_digit (get_or text count 0) range in
    let small : digit_value (get_or text count 0) < 10 = omega (arith, value, range) in
    record {
      within = omega (arith, lt);
      all = digits_more 10 text count lt so_far.all small;
      value = sym step ∙ (ap (λ (n : ℕ). n * 10 + (get_or text count 0 - 48)) so_far.value ∙ sym (value_at text count lt range));
      small = below;
    }

-- a digit that can't be appended makes the number too large
pub writes_no_more : (text : List ℕ) (count number : ℕ) → count < length text → Writes text count number → IsInRange 48 57 (get_or text count 0)
    → ¬ (IsInRange 48 57 (get_or text count 0) × (number * 10 + (get_or text count 0 - 48) < 2 ^ 64)) → IsTooLarge text
writes_no_more text count number lt so_far range refused =
    let digit = digit_value_digit (get_or text count 0) range in
    let small : digit_value (get_or text count 0) < 10 = omega (arith, digit, range) in
    let value = value_at text count lt range in
    let at : number ≡ digits_value 10 (take count text) = so_far.value in
    let large : ¬ (number * 10 + (get_or text count 0 - 48) < 2 ^ 64) = λ below. refused (range, below) in
    let above : 2 ^ 64 ≤ number * 10 + (get_or text count 0 - 48) = omega (arith, large) in
    record {
      count = count + 1;
      within = omega (arith, lt);
      all = digits_more 10 text count lt so_far.all small;
      large = omega (arith, value, at, above);
    }

-- eighteen digits and one more write a number of 64 bits
pub few_are_small : (text : List ℕ) (count number : ℕ) → Writes text count number → count ≤ 18 → number < 10 ^ 18
few_are_small text count number so_far few =
    let length_is = length-take-le count text so_far.within in
    let below = digits_value_short own (take count text) 18 so_far.all (omega (arith, length_is)) in
    subst (λ n. n < 10 ^ 18) (sym so_far.value) below

-- only the decimal of zero begins with a zero
zero_front : (n : ℕ) → n < 2 ^ 64 → get_or (decimal n) 0 0 ≡ 48 → length (decimal n) ≡ 1
zero_front zero small first = ap length (decimal_digit 0 (omega arith))
zero_front (suc n) small first = let above = first_decimal (suc n) (omega arith) small in absurd (omega arith)

-- digits without a zero in front are the decimal of their value
pub written_decimal : (text : List ℕ) (count number : ℕ) → Writes text count number → 0 < length (take count text)
    → (get_or (take count text) 0 0 ≡ 48 → length (take count text) ≡ 1) → take count text ≡ decimal number
written_decimal text count number read some one =
    let small : digits_value 10 (take count text) < 2 ^ 64 = subst (λ n. n < 2 ^ 64) read.value read.small in
    sym (ap decimal read.value ∙ decimal-digits_value own (take count text) read.all some one small)

-- what begins otherwise is no decimal
pub no_decimal : (digits : List ℕ) → ¬ ((0 < length digits) × (get_or digits 0 0 ≡ 48 → length digits ≡ 1)) → (n : ℕ) → ¬ IsDecimal digits n
no_decimal digits refused n laid =
    refused (subst (λ ds. 0 < length ds) (sym laid.1) (decimal_nonempty n laid.0), subst (λ ds. get_or ds 0 0 ≡ 48 → length ds ≡ 1) (sym laid.1) (zero_front n laid.0))

-- ---- the decimal that a text begins with

-- among digits at the front, each is one
front_digit : (text : List ℕ) (count k : ℕ) → count ≤ length text → AllDigits 10 (take count text) → k < count → IsInRange 48 57 (get_or text k 0)
front_digit text count k within all lt =
    let long = length-take-le count text within in
    subst (IsInRange 48 57) (get_or-take count text k 0 lt) (digit_at (take count text) k all (omega (arith, long, lt)))

-- what doesn't begin with a digit has none at its front
no_digit : (rest : List ℕ) → 0 < length rest → BeginsOtherwise rest → ¬ IsInRange 48 57 (get_or rest 0 0)
no_digit [] some other = absurd (omega (arith, some))
no_digit (byte ∷ rest) some other = other

-- digits at the front reach no further than to a place where none begins
reach : (text : List ℕ) (count k : ℕ) → count ≤ length text → AllDigits 10 (take count text) → BeginsOtherwise (drop k text) → count ≤ k
reach text count k within all other =
    let never : ¬ (k < count) = λ lt.
    let some : 0 < length (drop k text) = omega (arith, length-drop k text, lt, within) in
    let head : get_or (drop k text) 0 0 ≡ get_or text k 0 = get_or-drop k text 0 0 ∙ ap (λ j. get_or text j 0) (omega arith) in
    no_digit (drop k text) some other (subst (IsInRange 48 57) (sym head) (front_digit text count k within all lt)) in
    omega (arith, never)

-- the decimal that a text begins with is all its digits at the front, and what follows it is the rest
pub record Front (text : List ℕ) (n : ℕ) (rest : List ℕ) : Type 0 where
  pub within : length (decimal n) ≤ length text
  pub digits : take (length (decimal n)) text ≡ decimal n
  pub rest_is : drop (length (decimal n)) text ≡ rest

front : (text : List ℕ) (n : ℕ) (rest : List ℕ) → text ≡ decimal n ++ rest → Front text n rest
front text n rest whole = record {
  within = omega (arith, ap length whole, length-append (decimal n) rest);
  digits = ap (take (length (decimal n))) whole ∙ take-append_seam (decimal n) rest;
  rest_is = ap (drop (length (decimal n))) whole ∙ drop-append_seam (decimal n) rest;
}

-- digits that nothing more of their kind follows are the decimal that the text begins with
front_is_all : (text : List ℕ) (count n : ℕ) (rest : List ℕ) → count ≤ length text → AllDigits 10 (take count text) → BeginsOtherwise (drop count text)
    → BeginsWithDecimal text n rest → (count ≡ length (decimal n)) × (take count text ≡ decimal n)
front_is_all text count n rest within all other begins =
    let laid = front text n rest begins.whole in
    let written : AllDigits 10 (take (length (decimal n)) text) = subst (AllDigits 10) (sym laid.digits) (decimal_digits n begins.small) in
    let up = reach text (length (decimal n)) count laid.within written other in
    let down = reach text count (length (decimal n)) within all (subst BeginsOtherwise (sym laid.rest_is) begins.ended) in
    let same : count ≡ length (decimal n) = omega (arith, up, down) in
    (same, ap (λ k. take k text) same ∙ laid.digits)

-- a text begins with one decimal at most
pub one_leading : (text : List ℕ) (m n : ℕ) (r t : List ℕ) → BeginsWithDecimal text m r → BeginsWithDecimal text n t → (m ≡ n) × (r ≡ t)
one_leading text m n r t left right =
    let here = front text m r left.whole in
    let there = front text n t right.whole in
    let all : AllDigits 10 (take (length (decimal m)) text) = subst (AllDigits 10) (sym here.digits) (decimal_digits m left.small) in
    let same = front_is_all text (length (decimal m)) n t here.within all (subst BeginsOtherwise (sym here.rest_is) left.ended) right in
    (decimal_injective m n left.small right.small (sym here.digits ∙ same.1), sym here.rest_is ∙ ap (λ k. drop k text) same.0 ∙ there.rest_is)

-- digits without a zero in front, which no digit follows, are found
pub leading_found : (text : List ℕ) (count number : ℕ) → Writes text count number → BeginsOtherwise (drop count text) → 0 < length (take count text)
    → (get_or (take count text) 0 0 ≡ 48 → length (take count text) ≡ 1) → BeginsWithDecimal text number (drop count text)
leading_found text count number read other some one = record {
  small = read.small;
  whole = sym (take-append-drop count text) ∙ ap (λ digits. digits ++ drop count text) (written_decimal text count number read some one);
  ended = other;
}

-- no text begins with a decimal whose digits at the front begin otherwise than a decimal
pub front_refused : (text : List ℕ) (count number : ℕ) → Writes text count number → BeginsOtherwise (drop count text)
    → ¬ ((0 < length (take count text)) × (get_or (take count text) 0 0 ≡ 48 → length (take count text) ≡ 1)) → (n : ℕ) (rest : List ℕ) → ¬ BeginsWithDecimal text n rest
front_refused text count number read other refused n rest begins =
    no_decimal (take count text) refused n (begins.small, (front_is_all text count n rest read.within read.all other begins).1)

-- no text begins with a decimal whose digits at the front are too large
pub large_refused : (text : List ℕ) → IsTooLarge text → (n : ℕ) (rest : List ℕ) → ¬ BeginsWithDecimal text n rest
large_refused text large n rest begins =
    let laid = front text n rest begins.whole in
    let short = reach text large.count (length (decimal n)) large.within large.all (subst BeginsOtherwise (sym laid.rest_is) begins.ended) in
    let part = digits_value-take-le 10 (decimal n) large.count (omega arith) in
    let same : take large.count (decimal n) ≡ take large.count text =
    ap (take large.count) (sym laid.digits) ∙ take-take large.count (length (decimal n)) text short in
    let value : digits_value 10 (take large.count (decimal n)) ≡ digits_value 10 (take large.count text) = ap (digits_value 10) same in
    omega (arith, part, value, digits_value-decimal own n begins.small, large.large, begins.small)

-- a text that is a decimal begins with it, and nothing follows
pub whole_leading : (digits : List ℕ) (n : ℕ) → IsDecimal digits n → BeginsWithDecimal digits n []
whole_leading digits n laid = record { small = laid.0; whole = laid.1 ∙ sym (append-nil (decimal n)); ended = tt }

pub leading_whole : (digits : List ℕ) (n : ℕ) (rest : List ℕ) → length rest ≡ 0 → BeginsWithDecimal digits n rest → IsDecimal digits n
leading_whole digits n [] short begins = (begins.small, begins.whole ∙ append-nil (decimal n))
leading_whole digits n (byte ∷ rest) short begins = absurd (omega (arith, short))

-- a text that something follows the decimal in is no decimal
pub leading_part : (digits : List ℕ) (m : ℕ) (rest : List ℕ) → ¬ (length rest ≡ 0) → BeginsWithDecimal digits m rest → (n : ℕ) → ¬ IsDecimal digits n
leading_part digits m rest more begins n laid =
    let same = one_leading digits m n rest [] begins (whole_leading digits n laid) in
    more (ap length same.1)

-- ---- the number that is found

-- a number is found where its decimal stands
pub number_is : (digits : List ℕ) → Finds (number_of digits) (IsDecimal digits)
unfolding number_of
number_is digits n = on (nat_lt (digits_value 10 digits) (2 ^ 64) && bytes_eq digits (decimal (digits_value 10 digits))) refl where
  on : (fits : Bool) → (nat_lt (digits_value 10 digits) (2 ^ 64) && bytes_eq digits (decimal (digits_value 10 digits))) ≡ fits
      → ((if fits then Some (digits_value 10 digits) else None) ≡ Some n) ↔ IsDecimal digits n
  on true is =
      let small : digits_value 10 digits < 2 ^ 64 = grind (arith, common_steps) in
      let same : bytes_eq digits (decimal (digits_value 10 digits)) ≡ true = grind (arith, common_steps) in
      let laid : digits ≡ decimal (digits_value 10 digits) = (bytes_eq-Decides digits (decimal (digits_value 10 digits))).0 same in (
        λ found. let value_is : digits_value 10 digits ≡ n = same_Some _ _ found in (subst (λ (v : ℕ). v < 2 ^ 64) value_is small, laid ∙ ap decimal value_is),
        λ h. ap (λ (v : ℕ). Some v) (ap (digits_value 10) h.1 ∙ digits_value-decimal own n h.0),
      )
  on false is = (
    λ found. absurd (let none : None ≡ Some n = found in cc),
    λ h.
        let value_is : digits_value 10 digits ≡ n = ap (digits_value 10) h.1 ∙ digits_value-decimal own n h.0 in
        let small : digits_value 10 digits < 2 ^ 64 = subst (λ (v : ℕ). v < 2 ^ 64) (sym value_is) h.0 in
        let same : bytes_eq digits (decimal (digits_value 10 digits)) ≡ true = (bytes_eq-Decides digits (decimal (digits_value 10 digits))).1 (h.1 ∙ ap decimal (sym value_is)) in
        absurd (grind (arith, common_steps, small, same)),
  )

-- so what a search answers that finds just the decimals
pub number_found : (digits : List ℕ) (r : Option ℕ) → IfSome r (IsDecimal digits) → IfNone r ((n : ℕ) → ¬ IsDecimal digits n) → r ≡ number_of digits
number_found digits (Some n) found none = sym ((number_is digits n).1 found)
number_found digits None found none = on (number_of digits) refl where
  on : (o : Option ℕ) → number_of digits ≡ o → None ≡ number_of digits
  on None is = sym is
  on (Some n) is = absurd (none n ((number_is digits n).0 is))

-- ---- which bytes a decimal lacks

digits_lack : (byte : ℕ) (ds : List ℕ) → byte < 48 → AllDigits 10 ds → Lacks byte ds
digits_lack byte ds low all k d lt =
    let range : IsInRange 48 57 (get_or ds k 0) = digit_at ds k all lt in
    let same : get_or ds k d ≡ get_or ds k 0 = get_or_default ds k d 0 lt in
    λ is. omega (arith, range, same, is)

pub decimal_lacks : (byte : ℕ) → byte < 48 → (n : ℕ) → n < 2 ^ 64 → Lacks byte (decimal n)
decimal_lacks byte low n small = digits_lack byte (decimal n) low (decimal_digits n small)
