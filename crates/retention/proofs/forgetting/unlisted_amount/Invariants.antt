use Rattle.std.proofs.Common.{◌≡◌, ◌+◌, length}
use Rattle.std.specs.List.{filter}
use Rattle.std.specs.FinMap as fmap
use Rattle.harvest_lattice.specs.Lattice.{Key, Kept}
use Rattle.retention.specs.Amounts.{mementos_in}
use Rattle.retention.specs.Rules.{is_unlisted}
use Rattle.retention.proofs.forgetting.unlisted_amount.Given as goal

abbrev pub invariant-loop-row : goal.invariant-loop-row
invariant-loop-row l = record {
  entries : l.all.entries + length (filter (λ (e : Key × Kept). is_unlisted l.unlisted.withdrawn.now l.unlisted.listed.now e.0) l.row-iterator)
      ≡ length (filter (λ (e : Key × Kept). is_unlisted l.unlisted.withdrawn.now l.unlisted.listed.now e.0) (fmap.entries l.state));
  mementos : l.all.mementos + mementos_in (filter (λ (e : Key × Kept). is_unlisted l.unlisted.withdrawn.now l.unlisted.listed.now e.0) l.row-iterator)
      ≡ mementos_in (filter (λ (e : Key × Kept). is_unlisted l.unlisted.withdrawn.now l.unlisted.listed.now e.0) (fmap.entries l.state));
}
