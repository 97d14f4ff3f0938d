use Rattle.std.proofs.Common.{sym, ap, ◌∙◌}
use Rattle.memento_sets.specs.Sets as set
use Rattle.memento_sets.specs.MementoSets.{Mementos}
use Rattle.memento_sets.proofs.Ordered.{items_in_order}
use Rattle.memento_sets.proofs.mementos.Mementos.into_vec.Goals as goal

pub returns : goal.returns
returns c = sym (items_in_order _ c.self.invariant) ∙ ap (λ (s : Mementos). set.items s) c.self.view_is
