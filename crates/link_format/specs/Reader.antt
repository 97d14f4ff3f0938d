-- The links of a text, read one after another.
use Rattle.std.specs.Prelude.{◌≡◌, ◌⊎◌, ℕ, ◌≤◌, ◌<◌, List, [], ◌∷◌, ◌++◌, length, take, drop, Option, Some, None}
use Rattle.std.specs.Prelude.{MatchOption}
use Rattle.link_format.specs.Grammar.{Link, Reading}
use Rattle.link_format.specs.Scan.{◌>>=◌, reading_of}
use Rattle.link_format.specs.Walk.{in_list, left_by}
use Rattle.link_format.specs.Limits.{FewParams, ShortTargets}

-- a text, and how many of its links were read
pub record Progress : Type 0 where
  pub text : List ℕ
  pub count : ℕ

-- what stands behind a beginning of a text that ends with an element: a comma and the rest, or nothing
abbrev pub and_rest : Option (List ℕ) → List ℕ
and_rest None = []
and_rest (Some rest) = 44 ∷ rest

-- the reading of such a beginning; the rest may be anything
abbrev pub BeginsWith : List ℕ → Option (List ℕ) → List Link → Type 0
BeginsWith text rest links = (beginning : List ℕ) × (text ≡ beginning ++ and_rest rest) × Reading beginning links

-- A link that stands behind this many others: with them it is the reading of such a beginning. The text need have no
-- reading.
abbrev pub StandsBehind : ℕ → List ℕ → Link → Type 0
StandsBehind others text link =
    (given : List Link) × (rest : Option (List ℕ)) × BeginsWith text rest (given ++ link ∷ []) × (length given ≡ others)

-- the links before the rest, which at the start is the text
abbrev pub StandUpTo : List ℕ → Option (List ℕ) → List Link → Type 0
StandUpTo text rest links = ((rest ≡ Some text) × (links ≡ [])) ⊎ BeginsWith text rest links

-- the links of the rest of a text, if there is a rest
abbrev pub reading_left : Option (List ℕ) → Option (List Link)
reading_left None = Some []
reading_left (Some rest) = reading_of rest

-- links, and behind them those of the rest
abbrev pub with_left : List Link → Option (List ℕ) → Option (List Link)
with_left links rest = reading_left rest >>= λ more. Some (links ++ more)

-- a text goes wrong where its rest does
abbrev pub IsSamePlace : List ℕ → Option (List ℕ) → Type 0
IsSamePlace text None = Unit {0}
IsSamePlace text (Some rest) = left_by in_list rest ≡ left_by in_list text

-- a link that stands behind this many others passes no limit
abbrev pub IsWithin : ℕ → Link → Type 0
IsWithin others link = (others < 200000) × (length link.params ≤ 32) × (length link.target ≤ 8192)

-- of the links of a text this many stand before the rest, and none of these passes a limit
pub record StandBefore (rest : Option (List ℕ)) (count : ℕ) (links : List Link) : Type 0 where
  pub left : reading_left rest ≡ Some (drop count links)
  pub within : count ≤ length links
  pub params : FewParams (take count links)
  pub targets : ShortTargets (take count links)

-- this many links of a text are read, up to the rest
pub record IsReadTo (text : List ℕ) (rest : Option (List ℕ)) (count : ℕ) : Type 0 where
  pub given : (links : List Link) × StandUpTo text rest links × (length links ≡ count)
  pub links : MatchOption (reading_of text) (reading_left rest ≡ None) (StandBefore rest count)
  pub place : IsSamePlace text rest
  pub few : count ≤ 200000
