use Rattle.std.proofs.Common.{◌≡◌, take}
use Rattle.std.specs.FinMap as map
use Rattle.harvest_lattice.specs.Knowledge.{harvests_at, lat}
use Rattle.harvest_lattice.specs.Lattice.{join}
use Rattle.round_values.specs.Ahead.{not_ahead}
use Rattle.round_values.proofs.ahead.add_entry.Given as goal

abbrev pub invariant-loop-k : goal.invariant-loop-k
invariant-loop-k l =
    l.rest ≡ join l.fn.rest (lat (not_ahead l.last.0 (take l.k (harvests_at (l.archive, l.original) l.entry.is_whole (map.entries l.entry.revisions)))))
