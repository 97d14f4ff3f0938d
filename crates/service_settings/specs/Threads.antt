-- In which threads walks run.
use Rattle.std.specs.Prelude.{◌≡◌, ℕ, Option, None, Some}
use Rattle.service_settings.specs.Limits.{limits}
use Rattle.service_settings.specs.declared.fault.Key.{Key}
use Rattle.service_settings.specs.declared.fault.Key.TheVariants as key
use Rattle.service_settings.specs.declared.threads.Stacks.{Stacks}
use Rattle.service_settings.specs.declared.threads.Stacks.TheVariants.{Whole, Small}

-- the key that says how many threads there are with such stacks
abbrev pub counted_at : Stacks → Key
counted_at Whole = key.Workers
counted_at Small = key.Walks

-- the most threads with such stacks, and so the most walks of one archive at once
abbrev pub most_threads : Stacks → ℕ
most_threads stacks = (limits (counted_at stacks)).1

-- the stacks are small where `walks` is there
abbrev pub stacks_of : Option ℕ → Stacks
stacks_of None = Whole
stacks_of (Some walks) = Small

-- as many threads as `walks` says; where it is missing, as many as `workers` says
abbrev pub count_of : ℕ → Option ℕ → ℕ
count_of workers None = workers
count_of workers (Some walks) = walks

-- worked examples
pub record AreThreads : Type 0 where
  pub workers_alone : count_of 8 None ≡ 8
  pub walks_beside : count_of 8 (Some 300) ≡ 300
  pub few_beside : count_of 8 (Some 2) ≡ 2
  pub whole : stacks_of None ≡ Whole
  pub small : stacks_of (Some 2) ≡ Small
  pub most_whole : most_threads (stacks_of None) ≡ 64
  pub most_small : most_threads (stacks_of (Some 2)) ≡ 1000
