-- What a fault is printed as.
use Rattle.std.specs.Prelude.{ℕ, List, ◌++◌, codes}
use Rattle.std.specs.Fmt.{decimal}
use Rattle.link_format.specs.declared.fault.LinkFault.{LinkFault}
use Rattle.link_format.specs.declared.fault.LinkFault.TheVariants.{NotLinkFormat, TooManyLinks, TooManyParams}
use Rattle.link_format.specs.declared.fault.LinkFault.TheVariants.{TargetTooLong, NoMemory}

-- what a fault is printed as
abbrev pub words_of : LinkFault → List ℕ
words_of (NotLinkFormat at) = codes "not link-format, at byte " ++ decimal at
words_of TooManyLinks = codes "more than 200,000 links"
words_of TooManyParams = codes "a link with more than 32 parameters"
words_of TargetTooLong = codes "a target of more than 8,192 bytes"
words_of NoMemory = codes "no memory"
