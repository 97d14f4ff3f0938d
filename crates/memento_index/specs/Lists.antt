-- The lists of an index.
use Rattle.std.specs.Prelude.{◌≡◌, ◌≢◌, ℕ, ◌+◌, ◌≤◌, Bool, true, false, List, [], ◌++◌, length, map, Option, Some, None, IfSome}
use Rattle.std.specs.declared.sync.Arc.{Arc}
use Rattle.std.specs.Arc.{arc_value}
use Rattle.std.specs.BTreeMap as tree
use Rattle.std.specs.BTreeMap.{BTreeMap}
use Rattle.memento_time.specs.Mementos.{text_cmp}
use Rattle.memento_time.specs.declared.mementos.Memento.{Memento}
use Rattle.std.specs.FinMap as fmap
use Rattle.memento_sets.specs.Sets as set
use Rattle.memento_sets.specs.MementoSets.{Mementos}
use Rattle.harvest_lattice.specs.Lattice.{Key, Kept, Entries, IsAtMostAt, join_at}
use Rattle.harvest_lattice.specs.News.{IsFresh}
use Rattle.memento_index.specs.declared.counted.Counted.{Counted}
use Rattle.memento_index.specs.declared.counted.Step.{Step}
use Rattle.memento_index.specs.declared.counted.Steps.{Steps}
use Rattle.memento_index.specs.declared.counted.Steps.TheVariants.{All, Each}
use Rattle.memento_index.specs.Counts.{IsTally, count_of, occurrences, beginnings, endings}
use Rattle.memento_index.specs.Showing.{shows_one, showing, shown_before, shown_after}
use Rattle.memento_index.specs.Tallies.{Tallied, each_once}

-- of each original that has one, its list
abbrev pub Lists : Type 0
Lists = BTreeMap (List ℕ) Tallied

-- what a list has: none is as one of nothing
abbrev pub tally_in : Option Tallied → List Counted
tally_in None = []
tally_in (Some t) = t.entries

-- the mementos of an original with their counts
abbrev pub tally_of : Lists → List ℕ → List Counted
tally_of lists o = tally_in (tree.get text_cmp lists o)

-- a list that is there has a memento
abbrev pub IsListed : Option Tallied → Type 0
IsListed t = IfSome t (λ t. t.entries ≢ [])

-- the list stays as it is, with as much room at least, or is a new one of nothing
abbrev pub Grows : Option Tallied → Option Tallied → Type 0
Grows None new = tally_in new ≡ []
Grows (Some t) None = ⊥
Grows (Some t) (Some u) = (u.entries ≡ t.entries) × (t.room ≤ u.room)

-- the mementos of a shared list: none if there is no list
abbrev pub shared_mementos : {A : Type 0} → Option (Arc Mementos A) → List Memento
shared_mementos None = []
shared_mementos (Some list) = set.items (arc_value list)

-- each memento begins to be shown, or ceases to
abbrev pub each_step : Bool → List Memento → List Step
each_step begins ms = map (λ m. record { memento = m; begins = begins }) ms

-- the steps, one by one
abbrev pub steps_in : Steps → List Step
steps_in (All made) = each_step false (shared_mementos made.before) ++ each_step true (set.items (arc_value made.after))
steps_in (Each steps) = steps

-- of each original that has some, its steps
abbrev pub StepLists : Type 0
StepLists = BTreeMap (List ℕ) Steps

-- the steps that there are: none is as those of nothing
abbrev pub steps_or_none : Option Steps → List Step
steps_or_none None = []
steps_or_none (Some steps) = steps_in steps

-- the steps of an original
abbrev pub steps_of : StepLists → List ℕ → List Step
steps_of all o = steps_or_none (tree.get text_cmp all o)

-- a list is replaced if just what goes is listed, each by one archive
abbrev pub FitsList : List Counted → Steps → Type 0
FitsList entries (All made) = entries ≡ each_once (shared_mementos made.before)
FitsList entries (Each steps) = Unit {0}

-- and so is each list that one of these replaces
abbrev pub FitLists : Lists → StepLists → Type 0
FitLists lists all = (o : List ℕ) → IfSome (tree.get text_cmp all o) (FitsList (tally_of lists o))

-- each memento of an original stands in its list with the number of archives that show it, and an original of which
-- nothing is shown has no list
pub record IsCounted (x : Entries) (lists : Lists) : Type 0 where
  pub tally : (o : List ℕ) → IsTally (tally_of lists o)
  pub counts : (o : List ℕ) (m : Memento) → count_of (tally_of lists o) m ≡ showing x o m
  pub listed : (o : List ℕ) → IsListed (tree.get text_cmp lists o)

-- the list has room for the steps, and so has what is lifted off it; a list that is replaced wants none
abbrev pub CanTake : Tallied → ℕ → Steps → Type 0
CanTake t spare (All made) = t.entries ≡ each_once (shared_mementos made.before)
CanTake t spare (Each steps) = (length t.entries + length steps ≤ t.room) × (length t.entries + length steps ≤ spare)

-- the list is there, and the steps fit; and no count of the keys and these grows too large
abbrev pub HasRoom : ℕ → Option Tallied → ℕ → Steps → Type 0
HasRoom keys None spare steps = ⊥
HasRoom keys (Some t) spare steps = CanTake t spare steps × (keys + length (steps_in steps) ≤ 18446744073709551615)

-- the steps of each original have room
abbrev pub HaveRoom : ℕ → StepLists → Lists → ℕ → Type 0
HaveRoom keys all lists spare = (o : List ℕ)
    → IfSome (tree.get text_cmp all o) (HasRoom keys (tree.get text_cmp lists o) spare)

-- what ceases is counted, and no count grows too large
pub record CanCount (entries : List Counted) (steps : List Step) : Type 0 where
  pub shown : (m : Memento) → endings steps m ≤ count_of entries m
  pub few : (m : Memento) → count_of entries m + beginnings steps m ≤ 18446744073709551615

-- an entry alters what stands at its key, and repeats nothing that stands there at one of its revisions
abbrev pub IsNewsAt : Entries → Key × Kept → Type 0
IsNewsAt x e = (IsAtMostAt x e → ⊥) × IsFresh x e.0 e.1

-- and so does each entry of these
abbrev pub AreNews : Entries → Entries → Type 0
AreNews x news = (k : Key) → IfSome (fmap.get news k) (λ e. IsNewsAt x (k, e))

-- as an entry is joined, its archive shows the mementos after in the place of those before, which it showed
pub record IsReplaced (x : Entries) (e : Key × Kept) (before after : List Memento) : Type 0 where
  pub shows : (m : Memento) → shows_one (Some (join_at x e)) m + occurrences before m
      ≡ shows_one (fmap.get x e.0) m + occurrences after m
  pub shown : (m : Memento) → occurrences before m ≤ shows_one (fmap.get x e.0) m

-- to these steps come those from one list to another
pub record AreStepped (before after : List Memento) (old new : List Step) : Type 0 where
  pub counts : (m : Memento) → beginnings new m + (endings old m + occurrences before m)
      ≡ beginnings old m + (endings new m + occurrences after m)
  pub shown : (m : Memento) → endings new m ≤ endings old m + occurrences before m

-- what these steps say of an entry's archive, as the entry is joined: what it begins to show, and what it ceases to
pub record IsShifted (x : Entries) (e : Key × Kept) (old new : List Step) : Type 0 where
  pub counts : (m : Memento) → beginnings new m + (endings old m + shows_one (fmap.get x e.0) m)
      ≡ beginnings old m + (endings new m + shows_one (Some (join_at x e)) m)
  pub shown : (m : Memento) → endings new m ≤ endings old m + shows_one (fmap.get x e.0) m

-- and of the archives of all these entries
pub record AreGathered (x : Entries) (es : List (Key × Kept)) (all : StepLists) : Type 0 where
  pub counts : (o : List ℕ) (m : Memento)
      → beginnings (steps_of all o) m + shown_before x es o m ≡ endings (steps_of all o) m + shown_after x es o m
  pub shown : (o : List ℕ) (m : Memento) → endings (steps_of all o) m ≤ shown_before x es o m
