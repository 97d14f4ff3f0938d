use Rattle.memento_sets.proofs.Ordered.{set_of_members}
use Rattle.memento_sets.proofs.mementos.Mementos.of.Goals as goal

pub invariant_of-result : goal.invariant_of-result
invariant_of-result c = c.in_order.ensures.sorted

pub returns : goal.returns
returns c = set_of_members _ _ c.in_order.ensures.same
