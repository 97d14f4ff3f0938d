use Rattle.std.specs.Prelude.{◌≡◌}
use Rattle.std.specs.List.{list_any}
use Rattle.std.specs.FinMap as map
use Rattle.harvest_lattice.specs.Lattice.{Key, Kept}
use Rattle.retention.specs.Rules.{is_withdrawn}
use Rattle.forgetting.proofs.deciding.has_withdrawn.Given as goal

-- of what was gone over nothing is withdrawn
abbrev pub invariant-loop-archive : goal.invariant-loop-archive
invariant-loop-archive l =
    list_any (λ (e : Key × Kept). is_withdrawn l.withdrawn e.0) (map.entries l.state)
    ≡ list_any (λ (e : Key × Kept). is_withdrawn l.withdrawn e.0) l.archive-iterator
