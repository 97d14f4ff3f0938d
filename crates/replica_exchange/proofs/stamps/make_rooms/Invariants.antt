use Rattle.std.proofs.Common.{◌≡◌, ℕ, ◌<◌, get_or, IsSome}
use Rattle.std.specs.BTreeMap.{IsOrdered}
use Rattle.memento_time.specs.Mementos.{text_cmp}
use Rattle.harvest_lattice.specs.Lattice.{Key}
use Rattle.replica_exchange.specs.declared.stamps.ChangedKey.{ChangedKey}
use Rattle.replica_exchange.specs.StampShelves.{stamp_in, slot, key_of}
use Rattle.replica_exchange.proofs.stamps.make_rooms.Given as goal

abbrev pub invariant-loop-key : goal.invariant-loop-key
invariant-loop-key l = record {
  same : (k : Key) → stamp_in (slot l.shelves k) ≡ stamp_in (slot l.initial.shelves k);
  made : (k : ℕ) (key : ChangedKey) → k < l.key-index → IsSome (slot l.shelves (key_of (get_or l.keys k key)));
  ordered : IsOrdered text_cmp l.shelves;
}
