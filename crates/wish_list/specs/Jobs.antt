-- The jobs of granted wishes.
use Rattle.std.specs.Prelude.{◌≡◌, ℕ, Bool, false, List, map, Some, MatchOption, is_some, bytes_eq, position, remove, slice_get, slice_set}
use Rattle.wish_list.specs.declared.jobs.Granted.{Granted}
use Rattle.wish_list.specs.declared.jobs.Ended.{Ended}
use Rattle.wish_list.specs.Stages as stages
use Rattle.wish_list.specs.Stages.{Act, after, stage_at_first, can, outcome_of, ready}
use Rattle.wish_list.specs.Stages.Act.{Skips}

-- a wish that is granted: each archive is to be asked, except those that are spared
abbrev pub begun_for : List ℕ → List Bool → Granted
begun_for original spared = record { original = original; stages = map stage_at_first spared }

-- an archive is to be asked for it that may be
abbrev pub has_ready : List Bool → Granted → Bool
has_ready may granted = is_some (ready may granted.stages)

-- it is for this original
abbrev pub is_for : List ℕ → Granted → Bool
is_for original granted = bytes_eq original granted.original

-- its archives then
abbrev pub archives_after : Act → Granted → Granted
archives_after act granted = record granted { stages = after act granted.stages }

abbrev pub after_skip : ℕ → Granted → Granted
after_skip archive granted = archives_after (Skips archive) granted

-- it is over: no archive is to be asked or being asked for it
abbrev pub is_over : Granted → Bool
is_over granted = stages.is_over granted.stages

-- Something happens to the archives of the wish at this place, if there is one, and the call returns whether it could.
abbrev pub ChangesAt : ℕ → Act → Bool → List Granted → List Granted → Type 0
ChangesAt wish act result old new = MatchOption (slice_get old wish) ((result ≡ false) × (new ≡ old))
    (λ granted. (result ≡ can act granted.stages) × (new ≡ slice_set old wish (archives_after act granted)))

-- the same of the wish for this original
abbrev pub Changes : List ℕ → Act → Bool → List Granted → List Granted → Type 0
Changes original act result old new = MatchOption (position (is_for original) old) ((result ≡ false) × (new ≡ old))
    (λ wish. ChangesAt wish act result old new)

-- the oldest wish that is over is taken out
pub record TakesEnded (old : List Granted) (ended : Ended) (new : List Granted) : Type 0 where
  pub place : ℕ
  pub granted : Granted
  pub oldest : position is_over old ≡ Some place
  pub there : slice_get old place ≡ Some granted
  pub original : ended.original ≡ granted.original
  pub outcome : ended.outcome ≡ outcome_of granted.stages
  pub after : new ≡ remove old place
