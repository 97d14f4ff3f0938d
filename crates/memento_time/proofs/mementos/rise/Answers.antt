use Rattle.std.proofs.Common.{[], arith}
use Rattle.std.proofs.lemmas.Map.Keys.{sorted_from_all_adjacent}
use Rattle.memento_time.proofs.MementoLemmas.{memento_cmp_total}
use Rattle.memento_time.proofs.mementos.rise.Goals as goal

pub returns : goal.returns
returns c = λ _. sorted_from_all_adjacent memento_cmp_total c.args.mementos.now (record { at = 0; uri = [] }) (λ k lt. c.loop-k.invariant.rises k _ (omega (arith, lt, c.loop-k-test.false)))
