-- Why a text isn't read as a state or a delta, and why a merge isn't absorbed.
use Rattle.std.specs.Prelude.{ℕ, ◌<◌, ◌≤◌, List, length, codes}
use Rattle.memento_time.specs.declared.faults.CleanFault.{CleanFault}
use Rattle.memento_time.specs.declared.faults.CleanFault.TheVariants.{NotClean, NoMemory as CleanNoMemory}
use Rattle.replica_exchange.specs.StateText.{IsTextOf}
use Rattle.replica_exchange.specs.DeltaText.{IsDeltaText}
use Rattle.replica_exchange.specs.declared.fault.StateFault.{StateFault}
use Rattle.replica_exchange.specs.declared.fault.StateFault.TheVariants.{TooLong, NotState, NoMemory}
use Rattle.replica_exchange.specs.declared.stamped.StampFault.{StampFault}
use Rattle.replica_exchange.specs.declared.stamped.StampFault.TheVariants.{NumbersSpent, NoMemory as OutOfMemory}

-- the most bytes of a state's text
abbrev pub longest_text : ℕ
longest_text = 268435456

-- a text is too long, or it is within the limit and no value's text, or a growth was refused
abbrev pub IsCauseFor : {A : Type 0} → (List ℕ → A → Type 0) → StateFault → List ℕ → Type 0
IsCauseFor IsOf TooLong text = longest_text < length text
IsCauseFor {A} IsOf NotState text = (length text ≤ longest_text) × ((value : A) → ¬ IsOf text value)
IsCauseFor IsOf NoMemory text = length text ≤ longest_text

-- why a text is read as no state
abbrev pub IsCause : StateFault → List ℕ → Type 0
IsCause = IsCauseFor IsTextOf

-- why a text is read as no delta
abbrev pub IsDeltaCause : StateFault → List ℕ → Type 0
IsDeltaCause = IsCauseFor IsDeltaText

-- a field that isn't clean stands in no state's text
abbrev pub fault_of : CleanFault → StateFault
fault_of NotClean = NotState
fault_of CleanNoMemory = NoMemory

-- what a fault is printed as
abbrev pub words_of : StateFault → List ℕ
words_of TooLong = codes "longer than 268435456 bytes"
words_of NotState = codes "not the text of a state"
words_of NoMemory = codes "no memory"

-- what a fault of a merge is printed as
abbrev pub stamp_words : StampFault → List ℕ
stamp_words NumbersSpent = codes "numbers spent"
stamp_words OutOfMemory = codes "no memory"
