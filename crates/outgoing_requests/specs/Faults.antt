-- The words of faults.
use Rattle.std.specs.Prelude.{ℕ, List, ◌++◌, codes}
use Rattle.std.specs.Fmt.{decimal}
use Rattle.outgoing_requests.specs.declared.faults.PullFault.{PullFault}
use Rattle.outgoing_requests.specs.declared.faults.PullFault.TheVariants as pull

-- why a peer's delta isn't pulled
abbrev pub pull_words : PullFault → List ℕ
pull_words pull.Failed = codes "no answer"
pull_words (pull.Status status) = codes "status " ++ decimal status
pull_words pull.BadState = codes "not the text of a delta"
pull_words pull.TooLong = codes "a delta of over 268435456 bytes, which the key `parts` has sent in parts"
pull_words pull.NoMemory = codes "no memory"
