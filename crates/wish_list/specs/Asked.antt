-- Originals that may be wished for.
use Rattle.std.specs.Prelude.{◌≡◌, ℕ, List, Some}
use Rattle.timemap_reader.specs.Original.{original_of}

-- an original as `read_original` writes it: it names itself
pub record IsRead (original : List ℕ) : Type 0 where
  pub itself : original_of original ≡ Some original
