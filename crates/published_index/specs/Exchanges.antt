-- Mergers that get nothing but each other's deltas.
use Rattle.std.specs.Prelude.{List, [], ◌∷◌, Contains}
use Rattle.harvest_lattice.specs.Lattice.{Entries, AtMost}
use Rattle.harvest_lattice.specs.Knowledge.{Harvested, lat}
use Rattle.published_index.specs.Batches.{Batch, fold_of}
use Rattle.published_index.specs.Cursors.{MergerCall, Append, AppendDelta, MoveCursor, Publish, IsKnown, after_call}
use Rattle.published_index.specs.Views.{MergerView}

-- the state of all that was published
abbrev pub published_by : MergerView → Entries
published_by m = lat (fold_of m.published)

-- the state has all that the harvest brings
abbrev pub Has : Entries → Harvested → Type 0
Has x h = AtMost (lat (h ∷ [])) x

-- the state has nothing beyond what these harvests brought: any other that has each of those that it has, has all of it
abbrev pub IsMadeOf : List Harvested → Entries → Type 0
IsMadeOf harvests x = (y : Entries) → ((h : Harvested) → Contains harvests h → Has x h → Has y h) → AtMost x y

-- a call of a merger that gets nothing but deltas, each made of these harvests and taken as what it is
abbrev pub IsExchanged : List Harvested → MergerView → MergerCall → Type 0
IsExchanged harvests m (Append merge) = ⊥
IsExchanged harvests m (AppendDelta peer d) = IsMadeOf harvests d.state × (¬ IsKnown m d)
IsExchanged harvests m (MoveCursor peer d) = IsKnown m d
IsExchanged harvests m Publish = Unit {0}

-- such calls, one after the other
abbrev pub AreExchanged : List Harvested → MergerView → List MergerCall → Type 0
AreExchanged harvests m [] = Unit {0}
AreExchanged harvests m (call ∷ calls) = IsExchanged harvests m call × AreExchanged harvests (after_call m call) calls

-- those of the batches that have a merge
abbrev pub filled : List Batch → List Batch
filled [] = []
filled ([] ∷ list) = filled list
filled ((merge ∷ merges) ∷ list) = (merge ∷ merges) ∷ filled list
