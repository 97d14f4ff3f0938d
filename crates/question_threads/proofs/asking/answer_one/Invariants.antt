use Rattle.std.proofs.Common.{◌≡◌, [], ◌∷◌}
use Rattle.std.specs.Arc.{arc_value}
use Rattle.std.specs.Io.KnownBytes.{Appends}
use Rattle.question_threads.proofs.asking.answer_one.Given as goal

-- the question waits, and nothing was written
abbrev pub invariant-loop : goal.invariant-loop
invariant-loop g l =
    (l.desk.queue.want ≡ l.fn.want) × (l.desk.queue.base ≡ (arc_value l.fn.sources).base) × (l.desk.queue.originals ≡ l.fn.original ∷ [])
    × Appends (g.W.Write.contents l.fn.out) (g.W.Write.contents l.out) []
