use Rattle.std.proofs.Common.{◌≡◌, take, IsTrue}
use Rattle.memento_time.proofs.dates.is_same.Given as goal

abbrev pub invariant-loop-k : goal.invariant-loop-k
invariant-loop-k g l = IsTrue l.same → take l.k l.a ≡ take l.k l.b
