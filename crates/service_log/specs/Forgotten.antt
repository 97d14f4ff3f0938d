-- What is told of what is forgotten and withdrawn.
use Rattle.std.specs.Prelude.{ℕ, List, ◌++◌, codes}
use Rattle.std.specs.Fmt.{decimal}
use Rattle.service_log.specs.declared.forgotten.KeptEntries.{KeptEntries}
use Rattle.service_log.specs.declared.forgotten.Took.{Took}
use Rattle.service_log.specs.declared.forgotten.Forgotten.{Forgotten}
use Rattle.service_log.specs.declared.forgotten.WithdrawnMatter.{WithdrawnMatter}
use Rattle.service_log.specs.declared.forgotten.WithdrawnMatter.TheVariants.{Bad, More, Unread, Unreadable, ManyArchives, ManyPrefixes, NoMemory}

-- how many entries are kept
abbrev pub kept_words : KeptEntries → List ℕ
kept_words kept = codes ", kept: " ++ decimal kept.0

-- how long it took
abbrev pub took_words : Took → List ℕ
took_words took = codes ", in " ++ decimal took.0 ++ codes " milliseconds"

-- how many entries were forgotten
abbrev pub forgotten_words : Forgotten → List ℕ
forgotten_words forgotten =
    decimal forgotten.entries ++ codes " entries" ++ kept_words forgotten.kept ++ took_words forgotten.took

-- what is told of the file of what is withdrawn
abbrev pub withdrawn_words : WithdrawnMatter → List ℕ
withdrawn_words (Bad number) = codes "line " ++ decimal number ++ codes " names nothing"
withdrawn_words (More count) = decimal count ++ codes " more lines name nothing"
withdrawn_words Unread = codes "not read: what was withdrawn before stays so"
withdrawn_words Unreadable = codes "not read"
withdrawn_words ManyArchives = codes "refused: more than 1000 archives"
withdrawn_words ManyPrefixes = codes "refused: more than 1000 prefixes"
withdrawn_words NoMemory = codes "no memory: what was withdrawn before stays so"

-- a line that `check` writes of the file of what is withdrawn
abbrev pub withdrawn_line : WithdrawnMatter → List ℕ
withdrawn_line matter = codes "withdrawn: " ++ withdrawn_words matter ++ codes "\n"
