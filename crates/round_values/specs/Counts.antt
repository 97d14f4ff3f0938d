-- What a round counts.
use Rattle.std.specs.Prelude.{Bool, true, false}
use Rattle.service_status.specs.Counts.{one_more}
use Rattle.round_values.specs.declared.rounds.Round.{Round}

-- the round with one harvest more, as far as it can be counted, which waits to be published
abbrev pub with_harvest : Round → Round
with_harvest round = record round { harvests = one_more round.harvests; pending = true }

-- The round after a publish. One that was refused leaves what waits.
abbrev pub round_after : Bool → Round → Round
round_after true round = record round { published = true; pending = false }
round_after false round = record round { published = false }
