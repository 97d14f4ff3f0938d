-- What refusals are printed as.
use Rattle.std.specs.Prelude.{ℕ, List, codes}
use Rattle.published_index.specs.declared.faults.GateFault.{GateFault}
use Rattle.published_index.specs.declared.faults.GateFault.TheVariants.{NoMemory, Closed}
use Rattle.published_index.specs.declared.faults.OpenFault.{OpenFault}
use Rattle.published_index.specs.declared.faults.OpenFault.TheVariants.{NoMemory as NoMemoryToOpen, NoPlace}

-- what a gate's refusal is printed as
abbrev pub words_of : GateFault → List ℕ
words_of NoMemory = codes "no memory"
words_of Closed = codes "closed"

-- what a refused opening is printed as
abbrev pub words_of_opening : OpenFault → List ℕ
words_of_opening NoMemoryToOpen = codes "no memory"
words_of_opening NoPlace = codes "no place for a reader"

-- what a refused publish is printed as
abbrev pub refused_words : List ℕ
refused_words = codes "nothing was published"
