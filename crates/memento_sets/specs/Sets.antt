-- Finite sets: finite maps that have nothing at each key. (`FinSet` of the library keeps back that `items` is in
-- order.)
use Rattle.std.specs.Prelude.{Bool, not, List, [], ◌∷◌}
use Rattle.std.specs.List.{filter}
use Rattle.std.specs.declared.cmp.Ordering.{Ordering}
use Rattle.std.specs.Coded.{Coded}
use Rattle.std.specs.FinSet as library
use Rattle.std.specs.FinMap.{FinMap, contains_key, from_entries, keys}
use Rattle.std.specs.FinMap as fmap
use Rattle.memento_sets.specs.Maps.{join_by}

-- elements as keys with nothing
abbrev pub as_keys : {K : Type 0} → List K → List (K × Unit {0})
as_keys [] = []
as_keys (x ∷ xs) = (x, tt) ∷ as_keys xs

-- a finite set, as a map to nothing
abbrev pub Set : {K : Type 0} → (K → K → Ordering) → Type 0
Set R = FinMap R (Unit {0})

module _ {K : Type 0} {R : K → K → Ordering} where
  -- a set as a list of pairs
  abbrev pub code : Coded K → Coded (Set R)
  code k = library.code k

  -- no element
  abbrev pub empty : Set R
  empty = fmap.empty

  -- the element is in the set
  abbrev pub contains : Set R → K → Bool
  contains s x = contains_key s x

  -- the set of a list's elements
  abbrev pub from_list : List K → Set R
  from_list xs = from_entries (as_keys xs)

  -- the elements of both
  abbrev pub union : Set R → Set R → Set R
  union s t = join_by (λ _ _. tt) s t

  -- in order, each once
  abbrev pub items : Set R → List K
  items s = keys s

  -- the elements that the other lacks
  abbrev pub minus : Set R → Set R → Set R
  minus s t = from_list (filter (λ x. not (contains t x)) (items s))
