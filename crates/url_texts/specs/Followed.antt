-- Addresses that are followed as they stand.
use Rattle.std.specs.Prelude.{◌≢◌, ℕ, Bool, ◌||◌, List, All, IsTrue, codes, nat_eq}
use Rattle.std.specs.List.{starts_with}

-- the text begins with `http://` or `https://`
abbrev pub begins_on_web : List ℕ → Bool
begins_on_web text = starts_with nat_eq text (codes "http://") || starts_with nat_eq text (codes "https://")

-- it begins so, and has no `#`: nothing is cut from it as a fragment
pub record IsFollowed (text : List ℕ) : Type 0 where
  pub web : IsTrue (begins_on_web text)
  pub whole : All (λ b. b ≢ 35) text
