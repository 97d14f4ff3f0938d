-- What a merge makes of a state with stamps, as a function of what it was.
use Rattle.std.specs.Prelude.{ℕ, ◌+◌, Bool, true, false, cond, ◌&&◌, ◌==◌, ◌++◌, Option, Some}
use Rattle.std.specs.Coded.{coded_option}
use Rattle.std.specs.FinMap as map
use base.Stored.{Gv, gnil, gnum, gcons}
use Rattle.memento_sets.specs.Maps.{tabulate}
use Rattle.harvest_lattice.specs.Lattice.{Key, Kept, Entries, join, coded_kept}
use Rattle.harvest_lattice.specs.Knowledge.{lat}
use Rattle.memento_index.specs.declared.merge.Merge.{Merge}
use Rattle.memento_index.specs.Merges.{adds_of}
use Rattle.replica_exchange.specs.Stamps.{Stamps, StampedState}

-- the state with stamps that no merge made
abbrev pub nothing_merged : ℕ → StampedState
nothing_merged incarnation = record { entries = map.empty; stamps = map.empty; number = 0; incarnation = incarnation }

-- two codes of values are the same
abbrev pub same_code : Gv → Gv → Bool
same_code gnil gnil = true
same_code gnil (gnum n) = false
same_code gnil (gcons a b) = false
same_code (gnum m) gnil = false
same_code (gnum m) (gnum n) = m == n
same_code (gnum m) (gcons a b) = false
same_code (gcons x y) gnil = false
same_code (gcons x y) (gnum n) = false
same_code (gcons x y) (gcons a b) = same_code x a && same_code y b

-- what is kept at a key is the same, or there is nothing in both
unfoldable pub is_same_entry : Option Kept → Option Kept → Bool
is_same_entry a b = same_code ((coded_option coded_kept).code a) ((coded_option coded_kept).code b)

-- the stamp at a key once the state is this: if the entry has changed it is the new number
abbrev pub stamp_with : StampedState → Entries → Key → Option ℕ
stamp_with s now k =
    cond (is_same_entry (map.get now k) (map.get s.entries k)) (map.get s.stamps k) (Some (s.number + 1))

-- the stamps of all keys
abbrev pub stamps_with : StampedState → Entries → Stamps
stamps_with s now = tabulate (map.keys now ++ map.keys s.stamps) (stamp_with s now)

-- the state with stamps after one merge more
unfoldable pub stamped_with : StampedState → Merge → StampedState
stamped_with s m = record {
  entries = join s.entries (lat (adds_of m));
  stamps = stamps_with s (join s.entries (lat (adds_of m)));
  number = s.number + 1;
  incarnation = s.incarnation;
}
