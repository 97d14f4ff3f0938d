-- A state cut into states, which together are it.
use Rattle.std.specs.Prelude.{◌≡◌, List, [], ◌∷◌, ◌++◌, map as map_list}
use Rattle.std.specs.FinMap as map
use Rattle.harvest_lattice.specs.Lattice.{Key, Kept, Entries, join}

-- the state of these entries
abbrev pub state_of : List (Key × Kept) → Entries
state_of es = map.from_entries es

-- one list of entries behind the other
abbrev pub entries_joined : List (List (Key × Kept)) → List (Key × Kept)
entries_joined [] = []
entries_joined (p ∷ ps) = p ++ entries_joined ps

-- the join of states
abbrev pub join_all : List Entries → Entries
join_all [] = map.empty
join_all (x ∷ xs) = join x (join_all xs)

-- the states have the entries of the state in order, each entry in one of them
pub record IsCut (x : Entries) (states : List Entries) : Type 0 where
  pub parts : List (List (Key × Kept))
  pub whole : entries_joined parts ≡ map.entries x
  pub states_are : states ≡ map_list state_of parts
