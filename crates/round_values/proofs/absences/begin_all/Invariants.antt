use Rattle.std.proofs.Common.{◌≡◌, ◌++◌, map, take, drop}
use Rattle.round_values.specs.Absences.{presence_at}
use Rattle.round_values.proofs.absences.begin_all.Given as goal

abbrev pub invariant-loop-archive : goal.invariant-loop-archive
invariant-loop-archive l =
    l.archives ≡ map (presence_at l.scope l.originals) (take l.archive-index l.fn.archives) ++ drop l.archive-index l.fn.archives
