-- Which archives a wish doesn't ask.
use Rattle.std.specs.Prelude.{◌||◌, ℕ, Bool, List, map as each, Option}
use Rattle.harvest_lattice.specs.Lattice.{Entries}
use Rattle.published_index.specs.Batches.{merges_of}
use Rattle.published_index.specs.Views.{MergerView}
use Rattle.retention.specs.Rules.{Withdrawal}
use Rattle.forgetting.specs.Renewing.{is_withdrawn_by}
use Rattle.round_values.specs.Wishes.{wish_timing}
use Rattle.service_settings.specs.declared.archives.Archive.{Archive}
use Rattle.service_settings.specs.declared.settings.Settings.{Settings}
use Rattle.service_settings.specs.declared.timing.Timing.{Timing}
use Rattle.replica_exchange.specs.Stamps.{state_after}
use Rattle.round_course.specs.Asking.{is_young_in}

-- a wish doesn't ask an archive for an original in a second: what is known is too young for that, or withdrawn
abbrev pub is_spared : Timing → Option Withdrawal → Entries → List ℕ → ℕ → Archive → Bool
is_spared timing withdrawn known original second archive =
    is_young_in (wish_timing timing) known (archive.name, original) second || is_withdrawn_by withdrawn (archive.name, original)

-- the same of each archive, by what is published
abbrev pub spared_by : Settings → Option Withdrawal → MergerView → List ℕ → ℕ → List Bool
spared_by settings withdrawn m original second =
    each (is_spared settings.timing withdrawn (state_after (merges_of m.published)) original second) settings.archives.items
