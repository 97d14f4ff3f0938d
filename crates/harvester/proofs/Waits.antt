-- For how long answers ask to be left alone.
use Rattle.std.proofs.Common.{◌≡◌, ◌⊎◌, inl, inr, ℕ, ◌≤◌, ◌<◌, List, [], ◌∷◌, ◌++◌, Contains, Option, Some, None, ⊎_elim, refl, sym, ap, subst, ◌∙◌, arith}
use Rattle.std.specs.Prelude.{min}
use Rattle.std.specs.Prelude.{◌^◌, ◌==◌, ◌&&◌, Bool, true, false, not, length, take, slice_index}
use Rattle.std.specs.Char.{digit_value, is_ascii_digit}
use Rattle.std.specs.List.{list_all}
use Rattle.std.specs.Str.{IsUtf8}
use Rattle.std.specs.Str.Parse.{AllDigits, IsNumeral, digits_value, without_leading_plus}
use Rattle.std.proofs.lemmas.Bool.{and_parts, cases_lt, not-true, and_from}
use Rattle.std.proofs.lemmas.Bool.Decides.{nat_tests}
use Rattle.std.proofs.lemmas.Fmt.{IsAscii-from_digits}
use Rattle.std.proofs.lemmas.Str.{IsUtf8-from_ascii}
use Rattle.std.proofs.lemmas.Str.Parse.{digit_from_value}
use Rattle.std.proofs.lemmas.List.Elements.{Contains-append_left, Contains-append_right, Contains-append_cases}
use Rattle.std.proofs.lemmas.Option.{same_Some}
use Rattle.memento_time.specs.BeforeEpoch.{is_before_epoch}
use Rattle.memento_time.specs.Blanks.{trim_blanks}
use Rattle.memento_time.specs.Names.{day_names}
use Rattle.memento_time.specs.SecondOf.{asked_of}
use Rattle.memento_time.proofs.SecondOfLemmas.{Asks-asked_of}
use Rattle.memento_time.proofs.ListFacts.{no_element, first_element, first_or_later}
use Rattle.harvester.specs.Answers.{Entry}
use Rattle.harvester.specs.Patience.{IsLongestAsked, asked_patience, is_number, longer}

none_or_some : (o : Option ℕ) (s : ℕ) → o ≡ None → o ≡ Some s → ⊥
none_or_some o s p q = cc

-- of a record with one answer more, which asks for this
module _ (now : ℕ) (es : List Entry) (e : Entry) where
  -- an element of it is an earlier one or the new one
  old_or_new : (x : Entry) → Contains (es ++ e ∷ []) x → Contains es x ⊎ (e ≡ x)
  old_or_new x c =
      ⊎_elim (λ old. inl old)
      (λ new. ⊎_elim (λ is. inr is) (λ none. absurd (no_element x none)) (first_or_later e [] x new))
      (Contains-append_cases es (e ∷ []) x c)

  is_new : Contains (es ++ e ∷ []) e
  is_new = Contains-append_right es (e ∷ []) e (first_element e [])

  is_old : (x : Entry) → Contains es x → Contains (es ++ e ∷ []) x
  is_old x c = Contains-append_left es (e ∷ []) x c

  same_asked : (p : Option ℕ) → asked_patience now e.1 ≡ p → (x : Entry) → e ≡ x → asked_patience now x.1 ≡ p
  same_asked p is x same = subst (λ (y : Entry). asked_patience now y.1 ≡ p) same is

  pub longest_with : (longest p : Option ℕ) → asked_patience now e.1 ≡ p → IsLongestAsked now es longest
      → IsLongestAsked now (es ++ e ∷ []) (longer longest p)
  longest_with None None is was = λ x c. ⊎_elim (λ old. was x old) (λ new. same_asked None is x new) (old_or_new x c)
  longest_with None (Some s) is was = (
    (e, is_new, is),
    λ x t c asks. ⊎_elim
        (λ old. absurd (none_or_some _ t (was x old) asks))
        (λ new. let same = same_Some s t (sym (same_asked (Some s) is x new) ∙ asks) in omega (arith, same))
        (old_or_new x c),
  )
  longest_with (Some l) None is was = (
    (was.0.0, is_old was.0.0 was.0.1, was.0.2),
    λ x t c asks. ⊎_elim
        (λ old. was.1 x t old asks)
        (λ new. absurd (none_or_some _ t (same_asked None is x new) asks))
        (old_or_new x c),
  )
  longest_with (Some l) (Some s) is was = (
    ⊎_elim
        (λ (less : l < s). (e, is_new, is ∙ ap (λ n. Some n) (omega arith)))
        (λ (no_less : s ≤ l). (was.0.0, is_old was.0.0 was.0.1, was.0.2 ∙ ap (λ n. Some n) (omega arith)))
        (cases_lt l s),
    λ x t c asks. ⊎_elim
        (λ old. let few = was.1 x t old asks in omega (arith, few))
        (λ new. let same = same_Some s t (sym (same_asked (Some s) is x new) ∙ asks) in omega (arith, same))
        (old_or_new x c),
  )

-- a digit by its test has a value below ten, and the other way round
digit_below : (c : ℕ) → is_ascii_digit c ≡ true → digit_value c < 10
digit_below c is = grind (arith, nat_tests)

digit_tested : (c : ℕ) → digit_value c < 10 → is_ascii_digit c ≡ true
digit_tested c below = let range = digit_from_value c below in grind (arith, nat_tests)

pub all_digits : (text : List ℕ) → list_all is_ascii_digit text ≡ true → AllDigits 10 text
all_digits [] is = tt
all_digits (c ∷ cs) is = let parts = and_parts (is_ascii_digit c) (list_all is_ascii_digit cs) is in (digit_below c parts.0, all_digits cs parts.1)

pub digits_tested : (text : List ℕ) → AllDigits 10 text → list_all is_ascii_digit text ≡ true
digits_tested [] all = refl
digits_tested (c ∷ cs) all = rw (digit_tested c all.0) (digits_tested cs all.1)

-- a text that is a number is one in std's words, and the other way round
pub number_is : (text : List ℕ) → is_number text ≡ true → IsNumeral 10 text
number_is [] is = absurd (let no : false ≡ true = is in cc)
number_is (c ∷ cs) is =
    let parts = and_parts (not (length (c ∷ cs) == 0)) (list_all is_ascii_digit (c ∷ cs)) is in (omega arith, all_digits (c ∷ cs) parts.1)

pub number_tested : (text : List ℕ) → IsNumeral 10 text → is_number text ≡ true
number_tested [] is = let no : 0 < 0 = is.0 in absurd (omega (arith, no))
number_tested (c ∷ cs) is =
    let some : not (length (c ∷ cs) == 0) ≡ true = grind (arith, nat_tests) in
    and_from (not (length (c ∷ cs) == 0)) (list_all is_ascii_digit (c ∷ cs)) some (digits_tested (c ∷ cs) is.1)

early_length : (t : List ℕ) → is_before_epoch t ≡ true → length t ≡ 29
unfolding is_before_epoch
early_length t is = grind (arith, nat_tests)

-- a text without the length of a date names none
pub no_date : (text : List ℕ) → (length (trim_blanks text) ≡ 29 → ⊥) → asked_of text ≡ None
no_date text other =
    elim (asked_of text) as (λ o. asked_of text ≡ o → o ≡ None) [
      | None ↦ λ is. refl
      | Some s ↦ λ is. absurd (⊎_elim (λ reads. other reads.len) (λ first. other (early_length (trim_blanks text) first.early)) (Asks-asked_of text s is))
    ] refl

second_false : (x y z : Bool) → y ≡ false → (x && (y && z)) ≡ false
second_false true y z is = rw is refl
second_false false y z is = refl

none_begins : (names : List (List ℕ)) → list_all (λ n. not (is_ascii_digit (slice_index n 0))) names ≡ true → (name : List ℕ) → Contains names name
    → is_ascii_digit (slice_index name 0) ≡ false
none_begins [] all name c = absurd (no_element name c)
none_begins (n ∷ ns) all name c =
    let parts = and_parts (not (is_ascii_digit (slice_index n 0))) (list_all (λ (n : List ℕ). not (is_ascii_digit (slice_index n 0))) ns) all in
    ⊎_elim
    (λ same. subst (λ (x : List ℕ). is_ascii_digit (slice_index x 0) ≡ false) same (not-true (is_ascii_digit (slice_index n 0)) parts.0))
    (λ rest. none_begins ns parts.1 name rest)
    (first_or_later n ns name c)

-- a text that begins with the name of a day is no number
pub no_number : (text : List ℕ) → Contains day_names (take 3 text) → is_number text ≡ false
no_number [] c = refl
no_number (b ∷ bs) c =
    second_false (not (length (b ∷ bs) == 0)) (is_ascii_digit b) (list_all is_ascii_digit bs) (none_begins day_names refl (take 3 (b ∷ bs)) c)

-- digits that no 64 bits hold write more than an hour
pub too_large : (bs : List ℕ) → is_number bs ≡ true
    → (IsNumeral 10 (without_leading_plus bs) × (digits_value 10 (without_leading_plus bs) < 2 ^ 64) → ⊥) → 3600 ≡ min (digits_value 10 bs) 3600
too_large [] is none = absurd (let no : false ≡ true = is in cc)
too_large (c ∷ cs) is none =
    let numeral = number_is (c ∷ cs) is in
    let tested = and_parts (not (length (c ∷ cs) == 0)) (list_all is_ascii_digit (c ∷ cs)) is in
    let parts = and_parts (is_ascii_digit c) (list_all is_ascii_digit cs) tested.1 in
    let first : (c == 43) ≡ false = (let digit = parts.0 in grind (arith, nat_tests)) in
    let same : without_leading_plus (c ∷ cs) ≡ c ∷ cs = rw first refl in
    let large : digits_value 10 (c ∷ cs) < 2 ^ 64 → ⊥ = λ small. none (rw same (numeral, small)) in
    omega (arith, large)

-- digits are text
pub digits_are_text : (bs : List ℕ) → is_number bs ≡ true → IsUtf8 bs
digits_are_text bs is = IsUtf8-from_ascii bs (IsAscii-from_digits bs (number_is bs is).1)
