-- What the faults are printed as.
use Rattle.std.specs.Prelude.{ℕ, List, ◌++◌, codes}
use Rattle.std.specs.Fmt.{decimal}
use Rattle.timemap_reader.specs.Answer as page
use Rattle.harvester.specs.declared.faults.FetchFault.{FetchFault}
use Rattle.harvester.specs.declared.faults.FetchFault.TheVariants.{Failed, Broken, TooLong, NoMemory as NoFetchMemory}
use Rattle.harvester.specs.declared.faults.WalkFault.{WalkFault}
use Rattle.harvester.specs.declared.faults.WalkFault.TheVariants.{Fetch, Status, Encoded, Page, TooManyPages}
use Rattle.harvester.specs.declared.faults.WalkFault.TheVariants.{TooManyMementos, NoMemory}

-- what a fault of a fetch is printed as
abbrev pub fetch_words : FetchFault → List ℕ
fetch_words Failed = codes "no answer"
fetch_words Broken = codes "no whole answer"
fetch_words TooLong = codes "a body of more than 8,388,608 bytes"
fetch_words NoFetchMemory = codes "no memory"

-- what a fault of a walk is printed as
abbrev pub walk_words : WalkFault → List ℕ
walk_words (Fetch fault) = fetch_words fault
walk_words (Status status) = codes "status " ++ decimal status
walk_words Encoded = codes "a content coding"
walk_words (Page fault) = page.words_of fault
walk_words TooManyPages = codes "more than 128 pages"
walk_words TooManyMementos = codes "more than 100,000 mementos"
walk_words NoMemory = codes "no memory"
