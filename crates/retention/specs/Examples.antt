-- Worked examples: what is known of two originals in two archives, how much that is, and how young.
use Rattle.std.specs.Prelude.{◌≡◌, ℕ, true, false, List, [], ◌∷◌, None, Some, codes, map as map_list}
use Rattle.std.specs.FinMap as map
use Rattle.memento_time.specs.declared.mementos.Memento.{Memento}
use Rattle.memento_sets.specs.Sets as set
use Rattle.memento_sets.specs.MementoSets.{Mementos}
use Rattle.harvest_lattice.specs.Lattice.{Key, Kept, Entries}
use Rattle.harvest_lattice.specs.Parts.{kept_in}
use Rattle.retention.specs.Amounts.{FitsIn, count, mementos, size}
use Rattle.retention.specs.Floors.{is_from, is_young, newest}

abbrev pub captured_at : ℕ → Memento
captured_at second = record { at = second; uri = codes "http://archive.example/" }

-- mementos that were captured in these seconds
abbrev pub captures : List ℕ → Mementos
captures seconds = set.from_list (map_list captured_at seconds)

-- the revision 100 with two mementos, and the revision 200, which has one of these again
abbrev pub harvested_twice : Kept
harvested_twice = kept_in true (100, captures (1 ∷ 2 ∷ [])) ((200, captures (2 ∷ [])) ∷ [])

-- the revision 150 with two mementos
abbrev pub harvested_once : Kept
harvested_once = kept_in true (150, captures (3 ∷ 4 ∷ [])) []

-- the revision 300 with none
abbrev pub harvested_in_vain : Kept
harvested_in_vain = kept_in true (300, captures []) []

-- of x in a1 and in a2, and of y in a2
abbrev pub rows : List (Key × Kept)
rows = ((codes "a1", codes "x"), harvested_twice) ∷ ((codes "a2", codes "x"), harvested_once)
    ∷ ((codes "a2", codes "y"), harvested_in_vain) ∷ []

abbrev pub known : Entries
known = map.from_sorted rows

-- A memento counts once in each revision that has it.
pub record AreAmounts : Type 0 where
  pub twice : size harvested_twice ≡ 3
  pub once : size harvested_once ≡ 2
  pub in_vain : size harvested_in_vain ≡ 0
  pub entries : count known ≡ 3
  pub mementos_are : mementos known ≡ 5
  pub no_entries : count map.empty ≡ 0
  pub no_mementos : mementos map.empty ≡ 0

-- No more than three entries with five mementos.
pub record AreBounds : Type 0 where
  pub equal : FitsIn (record { entries = 3; mementos = 5 }) (record { entries = 3; mementos = 5 })
  pub an_entry_more : ¬ FitsIn (record { entries = 4; mementos = 5 }) (record { entries = 3; mementos = 5 })
  pub a_memento_more : ¬ FitsIn (record { entries = 3; mementos = 6 }) (record { entries = 3; mementos = 5 })

-- What was looked at in the floor's second is young still. An original is as young as it is in any archive.
pub record AreAges : Type 0 where
  pub newest_of_two : newest harvested_twice ≡ Some 200
  pub newest_of_one : newest harvested_once ≡ Some 150
  pub before : is_from 200 (Some 199) ≡ false
  pub at : is_from 200 (Some 200) ≡ true
  pub after : is_from 200 (Some 201) ≡ true
  pub never : is_from 0 None ≡ false
  pub young : is_young 200 known (codes "x") ≡ true
  pub old : is_young 201 known (codes "x") ≡ false
  pub young_in_vain : is_young 300 known (codes "y") ≡ true
  pub old_in_vain : is_young 301 known (codes "y") ≡ false
  pub unknown : is_young 0 known (codes "z") ≡ false
  pub an_archive : is_young 0 known (codes "a1") ≡ false
