-- Which entry of settings is no original.
use Rattle.std.specs.Prelude.{◌≡◌, ℕ, List, Some, codes}
use Rattle.toml.specs.Data.{Members, get_member}
use Rattle.toml.specs.Parse.{parse_document}
use Rattle.original_list.specs.Entries.{bad_entry}

-- the text is TOML, and the entry of `originals` with this number, from 1 on, is the first that is no original
pub record IsBadOriginal (text : List ℕ) (number : ℕ) : Type 0 where
  pub members : Members
  pub read : parse_document text ≡ Some members
  pub first : bad_entry (get_member (codes "originals") members) ≡ Some number
