-- What `serve` writes of a round.
use Rattle.std.specs.Prelude.{ℕ, List, ◌++◌, codes, if◌then◌else◌}
use Rattle.std.specs.Fmt.{decimal}
use Rattle.round_values.specs.declared.rounds.Round.{Round}

-- what a round came to, as it stands behind its number
abbrev pub round_words : Round → List ℕ
round_words round =
    codes "jobs " ++ decimal round.jobs
    ++ codes " harvests " ++ decimal round.harvests
    ++ codes " pulls " ++ decimal round.pulls
    ++ codes " " ++ (if round.published then codes "published" else codes "kept")

-- the line of a round
abbrev pub round_line : ℕ → Round → List ℕ
round_line number round = codes "round " ++ decimal number ++ codes " " ++ round_words round ++ codes "\n"
