-- Why an archive's mementos are missing in an answer, and the words for it.
use Rattle.std.specs.Prelude.{ℕ, List, ◌++◌, codes, Option, Some, None, Result, Ok, Err, if◌then◌else◌}
use Rattle.harvest_lattice.specs.Knowledge.{Harvested}
use Rattle.harvester.specs.declared.faults.WalkFault.{WalkFault}
use Rattle.harvester.specs.Faults.{walk_words}
use Rattle.single_questions.specs.declared.failings.Failing.{Failing}
use Rattle.single_questions.specs.declared.failings.Failing.TheVariants.{Walk, Part, Unasked, TooLong}

-- why a walk didn't give all, if it didn't
abbrev pub failing_of : Result Harvested WalkFault → Option Failing
failing_of (Ok h) = if h.is_whole then None else Some Part
failing_of (Err fault) = Some (Walk fault)

-- what it is printed as
abbrev pub failing_words : Failing → List ℕ
failing_words (Walk fault) = walk_words fault
failing_words Part = codes "pages are missing"
failing_words Unasked = codes "not asked, as it is left alone"
failing_words TooLong = codes "an address of more than 8,192 bytes"

-- the line about an archive, with the original in front if it is to be told
abbrev pub line_words : Option (List ℕ) → List ℕ → Failing → List ℕ
line_words (Some original) archive failing = original ++ codes ": " ++ archive ++ codes ": " ++ failing_words failing
line_words None archive failing = archive ++ codes ": " ++ failing_words failing
