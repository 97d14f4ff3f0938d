-- What is taken of what peers give.
use Rattle.std.specs.Prelude.{◌≡◌, ℕ, List, Option}
use Rattle.harvest_lattice.specs.Lattice.{Entries, AtMost}
use Rattle.published_index.specs.declared.mergers.TakenAs.{TakenAs}
use Rattle.published_index.specs.declared.mergers.TakenAs.TheVariants.{News, Known}
use Rattle.published_index.specs.Views.{MergerView}
use Rattle.retention.specs.Restriction.{restrict}
use Rattle.retention.specs.Rules.{Withdrawal}
use Rattle.round_values.specs.declared.rounds.Round.{Round}
use Rattle.round_values.specs.Pulls.{PullsNothing, PullsSome}
use Rattle.forgetting.specs.Renewing.{known, rule_of}

-- what the rule of a service keeps of a state, for some originals that are wanted
pub record Sifts (withdrawn : Option Withdrawal) (listed : Option (List (List ℕ))) (x rest : Entries) : Type 0 where
  pub wanted : List (List ℕ)
  pub kept : rest ≡ restrict (rule_of withdrawn listed wanted) x

-- what has something that isn't published is appended and counted, and nothing else is
abbrev pub TakesAs : TakenAs → Entries → Round → MergerView → Round → MergerView → Type 0
TakesAs News state round m next n = PullsSome state round m next n
TakesAs Known state round m next n = AtMost state (known m) × PullsNothing round m next n
