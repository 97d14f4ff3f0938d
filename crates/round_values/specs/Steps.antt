-- How far the parts of a peer's delta were taken.
use Rattle.std.specs.Prelude.{◌≡◌, Bool, true, false, not, cond, ◌&&◌, Option, Some, None}
use Rattle.replica_exchange.specs.declared.cursor.Cursor.{Cursor}
use Rattle.delta_parts.specs.declared.asks.PartAsk.{PartAsk}
use Rattle.delta_parts.specs.declared.asks.PartAsk.TheVariants.{First, Next}
use Rattle.delta_parts.specs.declared.part.Part.{Part}
use Rattle.delta_parts.specs.declared.place.Place.{Place}
use Rattle.delta_parts.specs.declared.walk.Walk.{Walk}
use Rattle.delta_parts.specs.PartRule.{key_of, is_past, goes_on, fits_part}
use Rattle.service_log.specs.declared.lines.PartFault.{PartFault}
use Rattle.service_log.specs.declared.lines.PartFault.TheVariants.{Apart, Still, NoMemory}
use Rattle.round_values.specs.declared.steps.Walking.{Walking}
use Rattle.round_values.specs.declared.steps.Stepped.{Stepped}

-- the walk, if there is one
abbrev pub walk_of : Option Walking → Option Walk
walk_of None = None
walk_of (Some walking) = Some walking.walk

-- the first part from a cursor, or the one behind the walk's place, from what was known when the walk began
abbrev pub next_ask : Option Cursor → Option Walking → PartAsk
next_ask cursor None = First cursor
next_ask cursor (Some walking) =
    Next (record { incarnation = walking.walk.incarnation; number = walking.walk.start }) walking.walk.place

-- a part behind which more follows ends at the place, or before it
abbrev pub is_no_further : Place → Option Place → Bool
is_no_further place None = false
is_no_further place (Some until) = not (is_past place (key_of until))

-- the part goes on with the walk, and ends no further on
abbrev pub is_still : Option Walk → Part → Bool
is_still None part = false
is_still (Some walk) part = goes_on (Some walk) part && is_no_further walk.place part.until

-- what was noted of the walk with which a part goes on, or what is noted of one that it begins
abbrev pub noted : Option Cursor → Option Walking → Part → Option Cursor × Bool
noted asked None part = (asked, false)
noted asked (Some known) part = cond (goes_on (Some known.walk) part) (known.asked, known.left_out) (asked, false)

-- what was noted stands beside the walk
abbrev pub IsNotedOf : Option Cursor × Bool → Option Walking → Type 0
IsNotedOf notes None = Unit {0}
IsNotedOf notes (Some next) = (next.asked ≡ notes.0) × (next.left_out ≡ notes.1)

abbrev pub IsNoted : Option Cursor → Option Walking → Part → Stepped → Type 0
IsNoted asked walking part it = (it.asked ≡ (noted asked walking part).0)
    × (it.left_out ≡ (noted asked walking part).1) × IsNotedOf (noted asked walking part) it.next

-- why a part isn't taken; memory is asked for only for one that is
abbrev pub IsPartCause : PartFault → Option Cursor → Option Walk → Part → Type 0
IsPartCause Apart asked walk part = fits_part asked walk part ≡ false
IsPartCause Still asked walk part = (fits_part asked walk part ≡ true) × (is_still walk part ≡ true)
IsPartCause NoMemory asked walk part = (fits_part asked walk part ≡ true) × (is_still walk part ≡ false)
