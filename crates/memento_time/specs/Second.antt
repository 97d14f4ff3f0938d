-- Seconds since the start of 1970, and their texts.
use Rattle.std.specs.Prelude.{◌≡◌, ℕ, ◌≤◌, ◌⊎◌, List, length, take, drop, Contains, IsTrue}
use Rattle.httpdate.specs.Text.{imf_fixdate}
use Rattle.memento_time.specs.Blanks.{trim_blanks}
use Rattle.memento_time.specs.BeforeEpoch.{is_before_epoch}
use Rattle.memento_time.specs.Civil.{civil_time}
use Rattle.memento_time.specs.Names.{day_names}

-- up to the end of the year 9999
abbrev pub IsSecond : ℕ → Type 0
IsSecond s = s ≤ 253402300799

-- the IMF-fixdate of a second
unfoldable pub imf : ℕ → List ℕ
imf s = imf_fixdate (civil_time s)

-- The text is the IMF-fixdate of the second, perhaps with the name of another day.
pub record Reads (text : List ℕ) (s : ℕ) : Type 0 where
  pub second : IsSecond s
  pub len : length text ≡ 29
  pub day : Contains day_names (take 3 text)
  pub rest : drop 3 text ≡ drop 3 (imf s)

-- what a text asks for that is no IMF-fixdate: a date before 1970 asks for the first second
pub record AsksForFirst (text : List ℕ) (s : ℕ) : Type 0 where
  pub unread : (t : ℕ) → ¬ Reads text t
  pub early : IsTrue (is_before_epoch text)
  pub first : s ≡ 0

-- Without the blanks at its ends, the text reads as the second, or is a date before 1970 and the second is 0.
abbrev pub Asks : List ℕ → ℕ → Type 0
Asks text s = Reads (trim_blanks text) s ⊎ AsksForFirst (trim_blanks text) s
