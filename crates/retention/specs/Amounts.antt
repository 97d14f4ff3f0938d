-- How much is known: entries, and mementos in them.
use Rattle.std.specs.Prelude.{ℕ, ◌+◌, ◌≤◌, List, [], ◌∷◌, length}
use Rattle.std.specs.FinMap as map
use Rattle.memento_sets.specs.Sets as set
use Rattle.memento_sets.specs.MementoSets.{Mementos}
use Rattle.harvest_lattice.specs.Lattice.{Key, Kept, Entries}
use Rattle.retention.specs.declared.amounts.Amount.{Amount}

-- how many mementos revisions have in all
abbrev pub sum_sizes : List (ℕ × Mementos) → ℕ
sum_sizes [] = 0
sum_sizes (e ∷ es) = length (set.items e.1) + sum_sizes es

-- how many mementos an entry has, counted in every revision
abbrev pub size : Kept → ℕ
size kept = sum_sizes (map.entries kept.revisions)

-- how many mementos entries have
abbrev pub mementos_in : List (Key × Kept) → ℕ
mementos_in [] = 0
mementos_in (e ∷ es) = size e.1 + mementos_in es

-- how many entries a state has
abbrev pub count : Entries → ℕ
count x = length (map.entries x)

-- and how many mementos
abbrev pub mementos : Entries → ℕ
mementos x = mementos_in (map.entries x)

-- no more than this, in entries and in mementos
abbrev pub FitsIn : Amount → Amount → Type 0
FitsIn x most = (x.entries ≤ most.entries) × (x.mementos ≤ most.mementos)
