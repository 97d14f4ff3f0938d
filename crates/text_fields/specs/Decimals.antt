-- Decimals of 64 bits.
use Rattle.std.specs.Prelude.{◌≡◌, ℕ, ◌≤◌, ◌<◌, ◌^◌, ◌&&◌, ⊤, List, [], ◌∷◌, ◌++◌, length, take, Option, None, Some}
use Rattle.std.specs.Prelude.{nat_lt, bytes_eq, if◌then◌else◌}
use Rattle.std.specs.Int.{IsInRange}
use Rattle.std.specs.Fmt.{decimal}
use Rattle.std.specs.Str.Parse.{AllDigits, digits_value}

-- the decimal of a number of 64 bits
abbrev pub IsDecimal : List ℕ → ℕ → Type 0
IsDecimal digits n = (n < 2 ^ 64) × (digits ≡ decimal n)

-- the value of the digits, if it has 64 bits and the digits are its decimal
unfoldable pub number_of : List ℕ → Option ℕ
number_of digits = if nat_lt (digits_value 10 digits) (2 ^ 64) && bytes_eq digits (decimal (digits_value 10 digits))
    then Some (digits_value 10 digits) else None

-- the text doesn't begin with a digit
abbrev pub BeginsOtherwise : List ℕ → Type 0
BeginsOtherwise [] = ⊤
BeginsOtherwise (byte ∷ _) = ¬ IsInRange 48 57 byte

-- the text is a number's decimal and what follows it, which no digit begins
pub record BeginsWithDecimal (text : List ℕ) (n : ℕ) (rest : List ℕ) : Type 0 where
  pub small : n < 2 ^ 64
  pub whole : text ≡ decimal n ++ rest
  pub ended : BeginsOtherwise rest

-- the first so many bytes are digits, and write this number of 64 bits, however many zeros are in front
pub record Writes (text : List ℕ) (count n : ℕ) : Type 0 where
  pub within : count ≤ length text
  pub all : AllDigits 10 (take count text)
  pub value : n ≡ digits_value 10 (take count text)
  pub small : n < 2 ^ 64

-- the text begins with digits that write a number of more than 64 bits
pub record IsTooLarge (text : List ℕ) : Type 0 where
  pub count : ℕ
  pub within : count ≤ length text
  pub all : AllDigits 10 (take count text)
  pub large : 2 ^ 64 ≤ digits_value 10 (take count text)
