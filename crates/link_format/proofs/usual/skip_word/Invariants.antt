use Rattle.std.proofs.Common.{◌≡◌, take, IsTrue}
use Rattle.link_format.proofs.usual.skip_word.Given as goal

abbrev pub invariant-loop-k : goal.invariant-loop-k
invariant-loop-k g l = IsTrue l.same → take l.k l.front ≡ take l.k l.word
