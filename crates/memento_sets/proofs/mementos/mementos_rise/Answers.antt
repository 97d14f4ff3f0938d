use Rattle.std.proofs.Common.{sym, ◌∙◌}
use Rattle.memento_sets.proofs.Rising.{mementos_risen, mementos_fallen, not_less}
use Rattle.memento_sets.proofs.mementos.mementos_rise.Goals as goal

pub returns-then-not-is_lt : goal.returns-then-not-is_lt
returns-then-not-is_lt c =
    sym (mementos_fallen c.args.list.now c.loop-k.k c.index-list-k.result c.index-list-k-in-loop-k.result
    c.loop-k.invariant.some c.loop-k-test.true c.index-list-k.is c.index-list-k-in-loop-k.is
    (λ less. not_less c.cmp.result c.is_lt.result c.is_lt.ensures c.if-not-is_lt.true (c.cmp.ensures ∙ less)))

pub returns : goal.returns
returns c = sym (mementos_risen c.args.list.now c.loop-k.k c.loop-k.invariant.rises c.loop-k-test.false)
