-- Sets of mementos, and lists of mementos that are in order.
use Rattle.std.specs.Prelude.{◌≡◌, Bool, true, cond, List, Option, Some, None}
use Rattle.std.specs.FinMap as fmap
use Rattle.memento_time.specs.Mementos.{memento_cmp}
use Rattle.memento_time.specs.declared.mementos.Memento.{Memento}
use Rattle.memento_sets.specs.Sets as set

-- a finite set of mementos
abbrev pub Mementos : Type 0
Mementos = set.Set memento_cmp

-- each memento of the one is in the other
abbrev pub IsSubset : Mementos → Mementos → Type 0
IsSubset a b = (m : Memento) → set.contains a m ≡ true → set.contains b m ≡ true

-- mementos that stand in their order, none twice
abbrev pub mementos_rise : List Memento → Bool
mementos_rise ms = fmap.is_sorted memento_cmp (set.as_keys ms)

-- the set of these mementos, if they stand in order
abbrev pub mementos_with : List Memento → Option (set.Set memento_cmp)
mementos_with ms = cond (mementos_rise ms) (Some (set.from_list ms)) None
