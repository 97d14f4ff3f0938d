-- How a world refuses bytes that aren't read, merges that aren't absorbed and deltas that aren't taken, and what its
-- refusals are printed as.
use Rattle.std.specs.Prelude.{ℕ, List, ◌++◌, ◌∷◌, Option, Some, None, codes}
use Rattle.std.specs.Fmt.{decimal}
use Rattle.replica_exchange.specs.declared.cursor.Cursor.{Cursor}
use Rattle.replica_exchange.specs.declared.cursor.TakeFault.{TakeFault}
use Rattle.replica_exchange.specs.declared.cursor.TakeFault.TheVariants as take
use Rattle.replica_exchange.specs.declared.fault.StateFault.{StateFault}
use Rattle.replica_exchange.specs.declared.fault.StateFault.TheVariants.{TooLong, NotState, NoMemory}
use Rattle.replica_exchange.specs.declared.stamped.StampFault.{StampFault}
use Rattle.replica_exchange.specs.declared.stamped.StampFault.TheVariants as stamp
use Rattle.replica_events.specs.declared.event.Refused.{Refused}
use Rattle.replica_events.specs.declared.event.Refused.TheVariants as refused

-- too many bytes, or none of a state or a delta: a bad state
abbrev pub refusal : StateFault → Refused
refusal TooLong = refused.BadState
refusal NotState = refused.BadState
refusal NoMemory = refused.NoMemory

-- a merge that isn't absorbed
abbrev pub stamp_refusal : StampFault → Refused
stamp_refusal stamp.NumbersSpent = refused.NumbersSpent
stamp_refusal stamp.NoMemory = refused.NoMemory

-- a delta that isn't taken
abbrev pub take_refusal : TakeFault → Refused
take_refusal (take.Gap held) = refused.Gap held
take_refusal take.NoMemory = refused.NoMemory

-- a gap is printed with the cursor that is held: `gap none`, or `gap INCARNATION NUMBER`
abbrev pub gap_words : Option Cursor → List ℕ
gap_words None = codes "gap none"
gap_words (Some c) = codes "gap " ++ decimal c.incarnation ++ 32 ∷ decimal c.number

-- what a refusal is printed as
abbrev pub words_of : Refused → List ℕ
words_of refused.NoReplica = codes "no replica"
words_of refused.NoMessage = codes "no message"
words_of refused.BadState = codes "bad state"
words_of refused.NoMemory = codes "no memory"
words_of (refused.Gap held) = gap_words held
words_of refused.NumbersSpent = codes "numbers spent"
