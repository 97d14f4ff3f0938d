-- Sets of originals.
use Rattle.std.specs.Prelude.{ℕ, Bool, List, bytes_eq}
use Rattle.std.specs.List.{list_any}

-- the original is one of these
abbrev pub stands : List (List ℕ) → List ℕ → Bool
stands originals original = list_any (bytes_eq original) originals
