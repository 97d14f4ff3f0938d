use Rattle.std.proofs.Common.{sym, ap, ◌∙◌}
use Rattle.memento_sets.specs.MementoSets.{mementos_rise}
use Rattle.memento_sets.proofs.Rising.{rise_in_order}
use Rattle.memento_sets.proofs.mementos.Mementos.of_sorted.Goals as goal

pub invariant_of-result : goal.invariant_of-result
invariant_of-result c = rise_in_order c.args.mementos.items (ap mementos_rise (sym c.deref.ensures.value)
    ∙ (sym c.mementos_rise.ensures ∙ c.if-not-mementos_rise.false))
