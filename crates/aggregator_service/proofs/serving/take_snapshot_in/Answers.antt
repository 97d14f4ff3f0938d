use Rattle.std.proofs.Common.{inr, ℕ, List, [], ap, refl, sym, append-nil}
use Rattle.memento_index.specs.declared.merge.Merge.{Merge}
use Rattle.published_index.specs.Views.{MergerView}
use Rattle.round_values.specs.Ahead.{last_taken}
use Rattle.round_values.specs.Keeping.{Starts}
use Rattle.aggregator_service.proofs.serving.take_snapshot_in.Goals as goal

-- without a snapshot nothing is added
nothing_is_added : (last : ℕ) (m : MergerView) → Starts last m m
nothing_is_added last m = (
  [],
  inr (record {
    first = [];
    left = [];
    split = refl;
    merger = ap (λ (merges : List Merge). record m { pending = merges }) (sym (append-nil m.pending));
  }),
)

pub returns-in_default : goal.returns-in_default
returns-in_default g c = (0, nothing_is_added (last_taken c.args.settings.now.timing.ahead 0) c.args.merger.now)
