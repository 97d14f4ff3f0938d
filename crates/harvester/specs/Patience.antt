-- For how long answers ask to be left alone (RFC 9110, section 10.2.3).
use Rattle.std.specs.Prelude.{◌≡◌, ℕ, ◌-◌, ◌^◌, ◌<◌, ◌≤◌, ◌==◌, ◌&&◌, ◌||◌, Bool, not, List, [], ◌∷◌, length, min, max, Contains}
use Rattle.std.specs.Prelude.{Option, Some, None, option_map, unwrap_or, if◌then◌else◌, codes}
use Rattle.std.specs.Char.{is_ascii_digit}
use Rattle.std.specs.List.{list_all}
use Rattle.std.specs.Fmt.{decimal}
use Rattle.std.specs.Str.Parse.{digits_value}
use Rattle.memento_time.specs.Blanks.{trim_blanks}
use Rattle.memento_time.specs.Second.{Reads}
use Rattle.memento_time.specs.SecondOf.{asked_of}
use Rattle.harvester.specs.declared.fetches.Answer.{Answer}
use Rattle.harvester.specs.Answers.{Entry}

-- the most seconds that count, however many are asked for
abbrev pub most_patience : ℕ
most_patience = 3600

-- the seconds that count if the archive names none
abbrev pub usual_patience : ℕ
usual_patience = 60

-- one digit or more, and nothing else
abbrev pub is_number : List ℕ → Bool
is_number text = not (length text == 0) && list_all is_ascii_digit text

-- The seconds that a text names: its number, or those from now to its date, which are none if that is past. A date
-- before 1970 counts as the first second of that year.
abbrev pub seconds_named : ℕ → List ℕ → Option ℕ
seconds_named now text =
    if is_number text then Some (digits_value 10 text) else option_map (λ date. date - now) (asked_of text)

-- the seconds for which the values of `Retry-After` ask; of several values the first counts
abbrev pub patience_named : ℕ → List (List ℕ) → ℕ
patience_named now [] = usual_patience
patience_named now (value ∷ _) =
    min (unwrap_or (seconds_named now (trim_blanks value)) usual_patience) most_patience

-- Too many requests (RFC 6585, section 4), or an archive that can't answer for the moment and says when it may
-- (RFC 9110, section 15.6.4).
abbrev pub asks_for_patience : Answer → Bool
asks_for_patience answer = answer.status == 429 || answer.status == 503 && not (length answer.retry_after == 0)

-- the seconds for which an answer asks, if it does
abbrev pub asked_patience : ℕ → Answer → Option ℕ
asked_patience now answer =
    if asks_for_patience answer then Some (patience_named now answer.retry_after) else None

-- the longer of two patiences, as far as they were asked for
abbrev pub longer : Option ℕ → Option ℕ → Option ℕ
longer None other = other
longer (Some one) None = Some one
longer (Some one) (Some other) = Some (max one other)

-- The longest of the patiences for which these answers ask, if any of them asks.
abbrev pub IsLongestAsked : ℕ → List Entry → Option ℕ → Type 0
IsLongestAsked now entries None = (e : Entry) → Contains entries e → asked_patience now e.1 ≡ None
IsLongestAsked now entries (Some longest) =
    ((e : Entry) × Contains entries e × (asked_patience now e.1 ≡ Some longest))
    × ((e : Entry) (seconds : ℕ) → Contains entries e → asked_patience now e.1 ≡ Some seconds → seconds ≤ longest)

-- Numbers and dates are read back, and nobody is waited for longer than an hour.
pub record IsPatience : Type 0 where
  pub number : (now n : ℕ) → n < 10 ^ 64 → seconds_named now (decimal n) ≡ Some n
  pub date : (now : ℕ) (text : List ℕ) (s : ℕ) → Reads text s → asked_of text ≡ Some s
      → seconds_named now text ≡ Some (s - now)
  pub most : (now : ℕ) (values : List (List ℕ)) → patience_named now values ≤ 3600

-- an answer with this status and these values of `Retry-After`
abbrev pub answer_with : ℕ → List (List ℕ) → Answer
answer_with status values = record { status = status; encoding = []; retry_after = values; body = [] }

-- worked examples: at the second 784111777, which is Sun, 06 Nov 1994 08:49:37 GMT
pub record ArePatiences : Type 0 where
  pub missing : patience_named 784111777 [] ≡ 60
  pub empty : patience_named 784111777 (codes "" ∷ []) ≡ 60
  pub words : patience_named 784111777 (codes "soon" ∷ []) ≡ 60
  pub negative : patience_named 784111777 (codes "-5" ∷ []) ≡ 60
  pub broken : patience_named 784111777 (codes "1.5" ∷ []) ≡ 60
  pub at_once : patience_named 784111777 (codes "0" ∷ []) ≡ 0
  pub seconds : patience_named 784111777 (codes "120" ∷ []) ≡ 120
  pub between_blanks : patience_named 784111777 (codes " 0120 " ∷ []) ≡ 120
  pub an_hour : patience_named 784111777 (codes "3600" ∷ []) ≡ 3600
  pub longer : patience_named 784111777 (codes "3601" ∷ []) ≡ 3600
  pub thirty_digits : patience_named 784111777 (codes "999999999999999999999999999999" ∷ []) ≡ 3600
  pub first_counts : patience_named 784111777 (codes "5" ∷ codes "120" ∷ []) ≡ 5
  pub too_many : asked_patience 784111777 (answer_with 429 []) ≡ Some 60
  pub too_many_until : asked_patience 784111777 (answer_with 429 (codes "7" ∷ [])) ≡ Some 7
  pub overloaded : asked_patience 784111777 (answer_with 503 []) ≡ None
  pub overloaded_until : asked_patience 784111777 (answer_with 503 (codes "7" ∷ [])) ≡ Some 7
  pub broken_down : asked_patience 784111777 (answer_with 500 (codes "7" ∷ [])) ≡ None
  pub found : asked_patience 784111777 (answer_with 200 (codes "7" ∷ [])) ≡ None
