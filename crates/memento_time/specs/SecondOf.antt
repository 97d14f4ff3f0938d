-- The second that a text reads as, as a function.
use Rattle.std.specs.Prelude.{ℕ, zero, suc, ◌==◌, ◌&&◌, List, length, take, drop, Option, Some, None, is_some, bytes_eq}
use Rattle.std.specs.Prelude.{Bool, if◌then◌else◌}
use Rattle.std.specs.List.{list_any}
use Rattle.memento_time.specs.Blanks.{trim_blanks}
use Rattle.memento_time.specs.BeforeEpoch.{is_before_epoch}
use Rattle.memento_time.specs.Second.{imf}
use Rattle.memento_time.specs.Names.{day_names}

-- whether the text is the second's IMF-fixdate, perhaps with the name of another day
unfoldable pub shows : List ℕ → ℕ → Bool
shows text s =
    (length text == 29) && list_any (bytes_eq (take 3 text)) day_names
    && bytes_eq (drop 3 text) (drop 3 (imf s))

-- the last number below n that passes the test
unfoldable pub last_below : (ℕ → Bool) → ℕ → Option ℕ
last_below test zero = None
last_below test (suc n) = if test n then Some n else last_below test n

-- the second that the text reads as, if any
unfoldable pub second_of : List ℕ → Option ℕ
second_of text = last_below (shows text) 253402300800

-- the second that the text asks for, if any
unfoldable pub asked_of : List ℕ → Option ℕ
asked_of text =
    let date = trim_blanks text in
    if is_some (second_of date) then second_of date
    else (if is_before_epoch date then Some 0 else None)
