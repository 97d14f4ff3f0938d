use Rattle.std.proofs.Common.{◌≡◌, drop, replicate}
use Rattle.left_right.specs.Sides.{view as view_of}
use Rattle.published_index.specs.Views.{new_gate}
use Rattle.published_index.proofs.openings.make_gates.Given as goal

abbrev pub invariant-loop-done : goal.invariant-loop-done
invariant-loop-done l =
    (l.writer.desk.shown ≡ l.initial.writer.desk.shown) × (view_of l.writer.desk.place ≡ view_of l.initial.writer.desk.place)
    × (drop l.writer.behind l.writer.log.items ≡ drop l.initial.writer.behind l.initial.writer.log.items)
    × (l.made.items ≡ replicate l._done (new_gate (view_of l.initial.writer.desk.place).opening (view_of l.initial.writer.desk.place).incarnation l.service))
