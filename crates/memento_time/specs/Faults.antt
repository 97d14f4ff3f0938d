-- What the faults are printed as.
use Rattle.std.specs.Prelude.{ℕ, List, codes}
use Rattle.memento_time.specs.declared.faults.CleanFault.{CleanFault}
use Rattle.memento_time.specs.declared.faults.CleanFault.TheVariants.{NotClean, NoMemory}

-- how a refused growth is printed
abbrev pub memory_words : List ℕ
memory_words = codes "no memory"

-- what a fault is printed as
abbrev pub words_of : CleanFault → List ℕ
words_of NotClean = codes "not a clean text"
words_of NoMemory = codes "no memory"
