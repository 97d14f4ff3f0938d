-- A set in the place of two columns.
use Rattle.std.specs.Prelude.{[], box_value}
use Rattle.std.specs.Arc.{arc_value}
use Rattle.memento_sets.specs.Sets as set
use Rattle.memento_index.specs.Tallies.{Tallied, each_once}
use Rattle.memento_index.specs.declared.listing.Holding.{Holding}
use Rattle.memento_index.specs.declared.listing.Holding.TheVariants.{Nothing, Set, Columns}

-- what a list has, by what holds it: only columns have room
abbrev pub held_by : Holding → Tallied
held_by Nothing = record { entries = []; room = 0 }
held_by (Set list) = record { entries = each_once (set.items (arc_value list)); room = 0 }
held_by (Columns own) = box_value own
