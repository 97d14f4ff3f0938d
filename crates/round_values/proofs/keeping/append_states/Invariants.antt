use Rattle.std.proofs.Common.{◌≡◌, ◌++◌}
use Rattle.std.specs.Vec.Iter.{into_iter_items}
use Rattle.round_values.specs.Keeping.{with_states}
use Rattle.round_values.proofs.keeping.append_states.Given as goal

abbrev pub invariant-loop-state : goal.invariant-loop-state
invariant-loop-state l = record {
  can : (goal.iterator-loop-state).can_next l.state-iterator;
  finite : (goal.iterator-loop-state).is_finite l.state-iterator;
  rest : l.fn.states.items ≡ l.yielded ++ into_iter_items l.state-iterator;
  merger : l.merger ≡ with_states l.initial.merger l.yielded;
}
