use Rattle.std.proofs.Common.{◌≡◌, ◌+◌, length}
use Rattle.std.specs.FinMap as fmap
use Rattle.retention.specs.Amounts.{count, mementos, mementos_in}
use Rattle.retention.proofs.amounts.amount_of.Given as goal

abbrev pub invariant-loop-row : goal.invariant-loop-row
invariant-loop-row l = record {
  entries : l.all.entries + length l.row-iterator ≡ count l.state;
  mementos : l.all.mementos + mementos_in l.row-iterator ≡ mementos l.state;
}
