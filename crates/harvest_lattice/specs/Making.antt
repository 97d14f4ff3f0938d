-- What mementos make: a harvest, if they are not too many.
use Rattle.std.specs.Prelude.{ℕ, ◌<◌, ◌≤◌, Bool, List, length}
use Rattle.memento_time.specs.declared.mementos.Memento.{Memento}
use Rattle.memento_time.specs.Mementos.{memento_cmp}
use Rattle.memento_sets.specs.Sets as set
use Rattle.harvest_lattice.specs.declared.harvest.TheConstants.Harvest.{MAX_MEMENTOS}
use Rattle.harvest_lattice.specs.Knowledge.{Harvested}

-- the harvest of these mementos, which come in any order and with repeats
abbrev pub harvest_from : List ℕ → List ℕ → ℕ → Bool → List Memento → Harvested
harvest_from archive original revision is_whole mementos = record {
  archive = archive;
  original = original;
  revision = revision;
  is_whole = is_whole;
  mementos = set.from_list mementos;
}

-- a harvest has no more distinct mementos than it may
abbrev pub HasFewMementos : Harvested → Type 0
HasFewMementos h = length (set.items h.mementos) ≤ MAX_MEMENTOS

-- mementos are more, each counted once, than a harvest may have
abbrev pub AreTooMany : List Memento → Type 0
AreTooMany mementos = MAX_MEMENTOS < length (set.items (set.from_list {R = memento_cmp} mementos))
