-- Why no snapshot is read, in words.
use Rattle.std.specs.Prelude.{ℕ, List, codes}
use Rattle.snapshot_sections.specs.declared.fault.SectionFault.{SectionFault}
use Rattle.snapshot_sections.specs.declared.fault.SectionFault.TheVariants.{NotSections, NotRead, NoMemory}

-- what a fault is printed as
abbrev pub words_of : SectionFault → List ℕ
words_of NotSections = codes "not the sections of a snapshot"
words_of NotRead = codes "not read"
words_of NoMemory = codes "no memory"
