-- What a writer holds if not all was written.
use Rattle.std.specs.Prelude.{◌≡◌, ℕ, ◌<◌, List, ◌++◌, length, Option}
use Rattle.std.specs.Io.KnownBytes.{Appends}

-- known bytes grow by a beginning of these, and not by all of them
pub record AppendsLess (old new : Option (List ℕ)) (bytes : List ℕ) : Type 0 where
  pub taken : List ℕ
  pub left : List ℕ
  pub all : taken ++ left ≡ bytes
  pub some_left : 0 < length left
  pub appended : Appends old new taken
