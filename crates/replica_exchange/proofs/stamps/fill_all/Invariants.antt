use Rattle.std.proofs.Common.{◌≡◌, take, map, IsSome}
use Rattle.std.specs.List.{All}
use Rattle.std.specs.BTreeMap.{IsOrdered}
use Rattle.memento_time.specs.Mementos.{text_cmp}
use Rattle.harvest_lattice.specs.Lattice.{Key}
use Rattle.replica_exchange.specs.declared.stamps.ChangedKey.{ChangedKey}
use Rattle.replica_exchange.specs.StampShelves.{stamp_in, slot, key_of, stamp_after}
use Rattle.replica_exchange.proofs.stamps.fill_all.Given as goal

abbrev pub invariant-loop-key : goal.invariant-loop-key
invariant-loop-key l = record {
  stamps : (k : Key) → stamp_in (slot l.shelves k) ≡ stamp_after (map key_of (take l.key-index l.keys)) l.stamp k (stamp_in (slot l.initial.shelves k));
  room : All (λ (key : ChangedKey). IsSome (slot l.shelves (key_of key))) l.keys;
  ordered : IsOrdered text_cmp l.shelves;
}
