use Rattle.std.proofs.Common.{◌≡◌, ◌++◌, ◌-◌, ◌^◌, map, min}
use Rattle.std.specs.List.{sum_by}
use Rattle.std.specs.Vec.Iter.{into_iter_items}
use Rattle.round_values.specs.Ahead as spec
use Rattle.round_values.proofs.keeping.timely_states.Given as goal

abbrev pub invariant-loop-state : goal.invariant-loop-state
invariant-loop-state l = record {
  can : (goal.iterator-loop-state).can_next l.state-iterator;
  finite : (goal.iterator-loop-state).is_finite l.state-iterator;
  rest : l.fn.states.items ≡ l.yielded ++ into_iter_items l.state-iterator;
  taken : l.taken.items ≡ map (spec.taken l.last.0) l.yielded;
  left_out : l.left_out ≡ min (sum_by (spec.left_out l.last.0) l.yielded) (2 ^ 64 - 1);
}
