-- What a text is read as.
use Rattle.std.specs.Prelude.{◌≡◌, Option, None, Some, Ok, Err}
use Rattle.url.specs.Parts.{Parts}
use Rattle.url.specs.Parser.{Parsed}
use Rattle.url.specs.declared.error.ParseError.{ParseError}

-- the URL that was parsed, or none if the text is none
abbrev pub IsReading : Parsed Parts → Option Parts → Type 0
IsReading parsed (Some url) = parsed ≡ Ok url
IsReading parsed None = (fault : ParseError) × (parsed ≡ Err fault)
