use Rattle.std.proofs.Common.{◌≡◌, map, take}
use Rattle.published_index.specs.Batches.{merges_of}
use Rattle.replica_exchange.specs.Stamps.{state_after}
use Rattle.round_walks.specs.Sparing as spec
use Rattle.round_walks.proofs.known.spared.Given as goal

-- what is told of those that were gone over
abbrev pub invariant-loop-archive : goal.invariant-loop-archive
invariant-loop-archive l = l.spared.items ≡ map
    (spec.is_spared l.settings.timing l.forgetting.withdrawn (state_after (merges_of l.merger.published)) l.original l.second.0)
    (take l.archive-index l.archive-items)
