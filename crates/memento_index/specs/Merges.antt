-- What a merge adds to the harvests taken.
use Rattle.std.specs.Prelude.{◌≡◌, ◌⊎◌, List, [], ◌∷◌, refl}
use Rattle.std.proofs.Common.{inl, inr}
use Rattle.std.specs.Coded.{Coded, code_by, coded⊎}
use Rattle.std.specs.FinMap as map
use Rattle.memento_index.specs.declared.merge.Merge.{Merge}
use Rattle.memento_index.specs.declared.merge.Merge.TheVariants.{Harvest, State}
use Rattle.harvest_lattice.specs.Knowledge.{Harvested, adds, coded_harvested}
use Rattle.harvest_lattice.specs.Lattice.{Entries, coded_key, coded_kept}

-- what a merge adds: one harvest, or one for each entry of a state
abbrev pub adds_of : Merge → List Harvested
adds_of (Harvest h) = h ∷ []
adds_of (State s) = adds s

-- a merge as the one or the other
abbrev pub either : Merge → Harvested ⊎ Entries
either (Harvest h) = inl h
either (State s) = inr s

abbrev pub merge_with : Harvested ⊎ Entries → Merge
merge_with (inl h) = Harvest h
merge_with (inr s) = State s

pub merge_with-either : (m : Merge) → merge_with (either m) ≡ m
merge_with-either (Harvest h) = refl
merge_with-either (State s) = refl

-- a merge by what it is
abbrev pub coded_merge : Coded Merge
coded_merge = code_by (Harvested ⊎ Entries)
    (coded⊎ coded_harvested (map.code coded_key coded_kept)) either merge_with merge_with-either
