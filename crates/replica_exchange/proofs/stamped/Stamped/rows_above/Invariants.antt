use Rattle.std.proofs.Common.{◌≡◌, map, take}
use Rattle.std.specs.List.{flat_map}
use Rattle.harvest_lattice.specs.Rows.{row_entry}
use Rattle.replica_exchange.specs.StampOrder.{stamp_and_key, standing_entry}
use Rattle.replica_exchange.proofs.stamped.Stamped.rows_above.Given as goal

abbrev pub invariant-loop-given : goal.invariant-loop-given
invariant-loop-given l = map row_entry l.rows.items ≡ flat_map (standing_entry l.self) (map stamp_and_key (take l.given-index l.behind))
