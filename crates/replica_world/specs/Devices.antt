-- What readers and writers tell after a failure.
use Rattle.std.specs.Prelude.{◌≡◌, ℕ, List, ◌++◌, Option, Result, Ok, Err}
use Rattle.std.specs.Io.KnownBytes.{Appends}
use Rattle.replica_world.specs.declared.replaying.fault.ReplayFault.{ReplayFault}
use Rattle.replica_world.specs.declared.replaying.fault.ReplayFault.TheVariants.{BadLine, Read, Write, NoMemory}
use Rattle.replica_world.specs.Watching.{count_after}

-- known bytes grow by a beginning of these
abbrev pub AppendsBeginning : Option (List ℕ) → Option (List ℕ) → List ℕ → Type 0
AppendsBeginning old new bytes = (done : List ℕ) × (more : List ℕ) × (bytes ≡ done ++ more) × Appends old new done

-- a reading stops if the reader failed, or if memory was refused
abbrev pub StopsReading : ReplayFault → Type 0
StopsReading Read = Unit {0}
StopsReading NoMemory = Unit {0}
StopsReading (BadLine number) = ⊥
StopsReading Write = ⊥

-- a replay breaks off if a device failed, or if memory was refused
abbrev pub IsBreak : ReplayFault → Type 0
IsBreak Read = Unit {0}
IsBreak Write = Unit {0}
IsBreak NoMemory = Unit {0}
IsBreak (BadLine number) = ⊥

-- a replay ends with `Write` just if a write failed
abbrev pub BlamesWriter : {T : Type 0} → Result T ReplayFault → ℕ → ℕ → Type 0
BlamesWriter (Ok u) old new = new ≡ old
BlamesWriter (Err Read) old new = new ≡ old
BlamesWriter (Err Write) old new = new ≡ count_after 1 old
BlamesWriter (Err NoMemory) old new = new ≡ old
BlamesWriter (Err (BadLine number)) old new = new ≡ old
