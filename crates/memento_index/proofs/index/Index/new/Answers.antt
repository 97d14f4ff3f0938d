use Rattle.std.proofs.Common.{List, ℕ, ap}
use Rattle.std.specs.Map.{lookup}
use Rattle.std.specs.BTreeMap.{is_at}
use Rattle.memento_time.specs.Mementos.{text_cmp}
use Rattle.memento_index.specs.Tallies.{Tallied}
use Rattle.memento_index.proofs.ListLemmas.{none_counted}
use Rattle.memento_index.proofs.index.Index.new.Goals as goal

pub invariant_of-result : goal.invariant_of-result
invariant_of-result c = none_counted c.new.result c.new-2.result c.new.ensures
    (λ o. ap (λ (es : List (List ℕ × Tallied)). lookup (is_at (text_cmp o)) es) c.new-2.ensures.empty)
