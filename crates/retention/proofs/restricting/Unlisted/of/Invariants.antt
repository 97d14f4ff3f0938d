use Rattle.std.proofs.Common.{◌≡◌, ◌++◌, map}
use Rattle.std.specs.List.{filter}
use Rattle.std.specs.FinMap as fmap
use Rattle.harvest_lattice.specs.Lattice.{Key, Kept}
use Rattle.harvest_lattice.specs.Rows.{row_entry}
use Rattle.retention.specs.Rules.{is_unlisted}
use Rattle.retention.proofs.restricting.Unlisted.of.Given as goal

abbrev pub invariant-loop-row : goal.invariant-loop-row
invariant-loop-row l =
    map row_entry l.rows.items ++ filter (λ (e : Key × Kept). is_unlisted l.self.withdrawn.now l.self.listed.now e.0) l.row-iterator
    ≡ filter (λ (e : Key × Kept). is_unlisted l.self.withdrawn.now l.self.listed.now e.0) (fmap.entries l.state)
