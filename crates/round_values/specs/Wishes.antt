-- What a wish's walk says, and when an archive is passed over.
use Rattle.std.specs.Prelude.{ℕ, Bool, true, false, List, [], ◌∷◌, ◌+◌, ◌-◌, ◌*◌, ◌/◌, ◌^◌, ◌<◌, ◌≤◌, min, max, Option, Some, IsSomeAnd, unwrap_or, Result, Ok, Err}
use Rattle.memento_sets.specs.Sets as set
use Rattle.memento_time.specs.declared.mementos.Memento.{Memento}
use Rattle.harvest_lattice.specs.Knowledge.{Harvested}
use Rattle.harvest_schedule.specs.Moods.{asked_from}
use Rattle.harvest_schedule.specs.declared.moods.Mood.{Mood}
use Rattle.harvest_schedule.specs.declared.moods.Mood.TheVariants.{Awake, Aside, Tried, Dormant, Probed}
use Rattle.harvester.specs.declared.faults.WalkFault.{WalkFault}
use Rattle.wish_list.specs.declared.stages.WishAnswer.{WishAnswer}
use Rattle.wish_list.specs.declared.stages.WishAnswer.TheVariants.{Copies, NoCopies, NoHarvest}
use Rattle.service_settings.specs.declared.timing.Timing.{Timing}

-- what an archive gave that was asked for a wish: a part of nothing is no harvest
abbrev pub answer_by : List Memento → Bool → WishAnswer
answer_by (memento ∷ rest) is_whole = Copies
answer_by [] true = NoCopies
answer_by [] false = NoHarvest

abbrev pub answer_to : Result Harvested WalkFault → WishAnswer
answer_to (Ok harvest) = answer_by (set.items harvest.mementos) harvest.is_whole
answer_to (Err fault) = NoHarvest

-- Wishes don't ask for what is less than a day old, if the settings don't say how old it may be.
abbrev pub wish_timing : Timing → Timing
wish_timing timing = record timing {
  again = Some (unwrap_or timing.again 86400);
  again_none = Some (unwrap_or timing.again_none (unwrap_or timing.again 86400));
}

-- it isn't asked before a later time
abbrev pub IsLeftAlone : ℕ → Option Mood → Type 0
IsLeftAlone now mood = IsSomeAnd mood (λ mood. IsSomeAnd (asked_from mood) (λ until. now < until))

-- It is put aside until a time that it named, and that is a minute at most after wishes began to wait for it, as far as
-- 64 bits count.
abbrev pub IsShortlyAside : ℕ → Mood → Type 0
IsShortlyAside since (Awake failed) = ⊥
IsShortlyAside since (Aside until failed) = until ≤ min (since + 60000) (2 ^ 64 - 1)
IsShortlyAside since (Tried failed) = ⊥
IsShortlyAside since (Dormant until named) = ⊥
IsShortlyAside since Probed = ⊥

-- wishes wait for it, which do so since this moment, or begin to
abbrev pub IsWaitedFor : ℕ → Option ℕ → Option Mood → Type 0
IsWaitedFor now since mood = IsSomeAnd mood (IsShortlyAside (unwrap_or since now))

-- How many more originals may be wished for of which nothing is shown, as far as 64 bits count: the state may have as
-- many entries as each archive has for the listed originals and for the wanted ones.
abbrev pub room_left : ℕ → ℕ → ℕ → ℕ → ℕ
room_left archives listed wanted entries =
    min ((min (min (listed + wanted) (2 ^ 64 - 1) * archives) (2 ^ 64 - 1) - entries) / max archives 1) wanted
