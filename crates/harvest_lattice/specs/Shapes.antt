-- What an entry keeps, by its shape.
use Rattle.std.specs.Prelude.{◌≡◌, ℕ, Bool, []}
use Rattle.std.specs.Arc.{arc_value}
use Rattle.memento_sets.specs.MementoSets.{Mementos}
use Rattle.harvest_lattice.specs.Lattice.{Kept}
use Rattle.harvest_lattice.specs.Parts.{AllStay, kept_in}
use Rattle.harvest_lattice.specs.declared.shape.Shape.{Shape}
use Rattle.harvest_lattice.specs.declared.shape.Shape.TheVariants.{One, Mixed}

-- one revision, or all of several
abbrev pub kept_by : Shape → Kept
kept_by (One is_whole part) = kept_in is_whole part []
kept_by (Mixed mixed) = arc_value mixed

-- the revision that comes is the only one that is kept, or takes the place of none of several
abbrev pub CanTake : Shape → Bool → ℕ × Mementos → Type 0
CanTake (One is_whole part) w p = p.0 ≡ part.0
CanTake (Mixed mixed) w p = AllStay (arc_value mixed) (kept_in w p [])
