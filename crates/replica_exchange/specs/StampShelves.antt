-- Where stamps are kept: of each archive a slot for each original that has one, with its stamp.
use Rattle.std.specs.Prelude.{ℕ, Bool, cond, List, [], ◌∷◌, ◌++◌, Option, Some, None}
use Rattle.std.specs.BTreeMap as tree
use Rattle.std.specs.BTreeMap.{BTreeMap}
use Rattle.std.specs.Coded.{Coded, coded_list, coded_option, coded_ℕ}
use Rattle.std.specs.FinMap as fmap
use Rattle.std.specs.Ordering.{eq_by_cmp}
use Rattle.std.specs.Set.{is_member}
use Rattle.memento_time.specs.Mementos.{text_cmp}
use Rattle.harvest_lattice.specs.Lattice.{Key, key_cmp}
use Rattle.replica_exchange.specs.Stamps.{Stamps}
use Rattle.replica_exchange.specs.declared.stamps.ChangedKey.{ChangedKey}

-- the slots of an archive: one for each original, which may be empty
abbrev pub Slots : Type 0
Slots = fmap.FinMap text_cmp (Option ℕ)

-- slots as pairs of an original and its stamp, if there is one
abbrev pub coded_slots : Coded Slots
coded_slots = fmap.code (coded_list coded_ℕ) (coded_option coded_ℕ)

-- those of each archive
abbrev pub Shelves : Type 0
Shelves = BTreeMap (List ℕ) Slots

-- an archive's slot of an original
abbrev pub slot_of : Option Slots → List ℕ → Option (Option ℕ)
slot_of None original = None
slot_of (Some slots) original = fmap.get slots original

-- the slot of a key
abbrev pub slot : Shelves → Key → Option (Option ℕ)
slot shelves k = slot_of (tree.get text_cmp shelves k.0) k.1

-- the stamp in a slot: none in an empty one, and none if there is no slot
abbrev pub stamp_in : Option (Option ℕ) → Option ℕ
stamp_in None = None
stamp_in (Some stamp) = stamp

-- the stamp of an archive's original, if its slot has one
abbrev pub slot_rows : List ℕ → List ℕ → Option ℕ → List (Key × ℕ)
slot_rows archive original None = []
slot_rows archive original (Some stamp) = ((archive, original), stamp) ∷ []

-- the stamps of an archive
abbrev pub shelf_rows : List ℕ → List (List ℕ × Option ℕ) → List (Key × ℕ)
shelf_rows archive [] = []
shelf_rows archive (s ∷ ss) = slot_rows archive s.0 s.1 ++ shelf_rows archive ss

-- the stamps of all archives
abbrev pub all_rows : List (List ℕ × Slots) → List (Key × ℕ)
all_rows [] = []
all_rows (s ∷ ss) = shelf_rows s.0 (fmap.entries s.1) ++ all_rows ss

-- the map of the stamps in the slots
abbrev pub stamps_in : Shelves → Stamps
stamps_in shelves = fmap.from_entries (all_rows shelves.entries)

-- the archive and original of a changed key
abbrev pub key_of : ChangedKey → Key
key_of key = (key.archive, key.original)

-- the key is one of these
abbrev pub is_among : List Key → Key → Bool
is_among keys k = is_member (eq_by_cmp key_cmp) keys k

-- the number at one of the keys, and at another key what was there
abbrev pub stamp_after : List Key → ℕ → Key → Option ℕ → Option ℕ
stamp_after keys number k was = cond (is_among keys k) (Some number) was
