use Rattle.std.proofs.Common.{◌≡◌, take, map}
use Rattle.harvest_lattice.specs.Rows.{row_key}
use Rattle.replica_exchange.specs.StampShelves.{key_of}
use Rattle.replica_exchange.proofs.stamps.keys_of.Given as goal

abbrev pub invariant-loop-row : goal.invariant-loop-row
invariant-loop-row l = map key_of l.keys.items ≡ map row_key (take l.row-index l.rows)
