use Rattle.std.proofs.Common.{reverse, sym, subst}
use Rattle.memento_index.specs.Counts.{IsTally}
use Rattle.memento_index.proofs.Tallies.{tally_before}
use Rattle.memento_index.proofs.counts.lift.Goals as goal

pub returns-clause-below : goal.returns-clause-below
returns-clause-below c =
    c.is_below.ensures c.loop-list-test.false
    (tally_before c.loop-list.list.entries (reverse c.loop-list.lifted.entries)
    (subst IsTally (sym c.loop-list.invariant.whole) c.requires.tally))
