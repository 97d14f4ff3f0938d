-- Why a snapshot isn't read or written, in words.
use Rattle.std.specs.Prelude.{ℕ, List, codes}
use Rattle.snapshot_sections.specs.declared.fault.SectionFault.{SectionFault}
use Rattle.snapshot_sections.specs.declared.fault.SectionFault.TheVariants.{NotSections, NotRead, NoMemory}
use Rattle.replica_exchange.specs.declared.fault.StateFault.{StateFault}
use Rattle.replica_exchange.specs.declared.fault.StateFault.TheVariants.{TooLong, NotState, NoMemory as StateNoMemory}
use Rattle.snapshots.specs.declared.faults.ReadFault.{ReadFault}
use Rattle.snapshots.specs.declared.faults.ReadFault.TheVariants.{NotSnapshot, NotRead as Unread, NoMemory as ReadNoMemory}
use Rattle.snapshots.specs.declared.faults.WriteFault.{WriteFault}
use Rattle.snapshots.specs.declared.faults.WriteFault.TheVariants.{TooLong as EntryTooLong, NotWritten, NoMemory as WriteNoMemory}

-- what a fault of the sections is
abbrev pub of_sections : SectionFault → ReadFault
of_sections NotSections = NotSnapshot
of_sections NotRead = Unread
of_sections NoMemory = ReadNoMemory

-- what a fault of a section's text is
abbrev pub of_text : StateFault → ReadFault
of_text TooLong = NotSnapshot
of_text NotState = NotSnapshot
of_text StateNoMemory = ReadNoMemory

-- what a fault is printed as
abbrev pub words_of : ReadFault → List ℕ
words_of NotSnapshot = codes "no snapshot"
words_of Unread = codes "not read"
words_of ReadNoMemory = codes "no memory"

-- what a fault of writing is printed as
abbrev pub words_of_writing : WriteFault → List ℕ
words_of_writing EntryTooLong = codes "too long"
words_of_writing NotWritten = codes "not written"
words_of_writing WriteNoMemory = codes "no memory"
