use Rattle.std.proofs.Common.{◌≡◌, map}
use Rattle.harvest_lattice.specs.Knowledge.{harvests_of, lat}
use Rattle.harvest_lattice.specs.Rows.{lent_entry}
use Rattle.round_values.specs.Ahead.{not_ahead}
use Rattle.round_values.proofs.ahead.without_ahead.Given as goal

abbrev pub invariant-loop-archive : goal.invariant-loop-archive
invariant-loop-archive l = l.rest ≡ lat (not_ahead l.last.0 (harvests_of (map lent_entry l.yielded)))
