-- What the words of the command line ask for.
use Rattle.std.specs.Prelude.{ℕ, List, Bool, ◌||◌, codes, bytes_eq, if◌then◌else◌, Result, Ok, Err, Option, Some, None, String}
use Rattle.std.specs.declared.alloc.Global.{Global}
use Rattle.aggregator.specs.declared.failure.Failure.{Failure}
use Rattle.aggregator.specs.declared.failure.Failure.TheVariants.{Usage}
use Rattle.aggregator.specs.declared.words.Command.{Command}
use Rattle.aggregator.specs.declared.words.Command.TheVariants.{Replay, Check, Serve, Help, Version}
use Rattle.aggregator.specs.declared.words.Subject.{Subject}
use Rattle.aggregator.specs.declared.words.Subject.TheVariants.{TimeMap, TimeGate}

-- the words for help
abbrev pub is_help : List ℕ → Bool
is_help word = bytes_eq word (codes "--help") || (bytes_eq word (codes "-h") || bytes_eq word (codes "help"))

-- a word alone asks for the replay, help or the version, or, with the name of a file, for a check or a service; others
-- for nothing that there is
abbrev pub asked_by : List ℕ → Option (String Global) → Result Command Failure
asked_by word None =
    if bytes_eq word (codes "replay") then Ok Replay
    else (if is_help word then Ok Help
    else (if bytes_eq word (codes "--version") then Ok Version else Err Usage))
asked_by word (Some file) =
    if bytes_eq word (codes "check") then Ok (Check file)
    else (if bytes_eq word (codes "serve") then Ok (Serve file) else Err Usage)

-- what an inquiry with a word is about
abbrev pub subject_named : List ℕ → Option Subject
subject_named word =
    if bytes_eq word (codes "timemap") then Some TimeMap
    else (if bytes_eq word (codes "timegate") then Some TimeGate else None)
