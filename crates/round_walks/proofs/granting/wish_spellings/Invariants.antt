use Rattle.std.proofs.Common.{◌≡◌}
use Rattle.round_walks.proofs.granting.wish_spellings.Given as goal

-- wishes for spellings put nothing on the desk but the spellings
abbrev pub invariant-loop-spelling : goal.invariant-loop-spelling
invariant-loop-spelling g l = l.course.standing.desk.jobs ≡ l.initial.course.standing.desk.jobs
