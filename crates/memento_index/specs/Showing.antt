-- How many archives show a memento.
use Rattle.std.specs.Prelude.{◌≡◌, ℕ, ◌+◌, ◌↔◌, cond, List, [], ◌∷◌, Option, Some, None, IsTrue}
use Rattle.std.specs.List.{Contains}
use Rattle.std.specs.List.Sorted.{IsStrictlySortedBy}
use Rattle.std.specs.Ordering.{eq_by_cmp}
use Rattle.std.specs.FinMap as fmap
use Rattle.memento_time.specs.Mementos.{text_cmp}
use Rattle.memento_time.specs.declared.mementos.Memento.{Memento}
use Rattle.memento_sets.specs.Sets as set
use Rattle.memento_sets.specs.MementoSets.{Mementos}
use Rattle.harvest_lattice.specs.Lattice.{Key, Kept, Entries, held, join_at}
use Rattle.harvest_lattice.specs.Knowledge.{mementos_of}

-- 1 if an entry is there and shows the memento, in however many of its revisions
abbrev pub shows_one : Option Kept → Memento → ℕ
shows_one None m = 0
shows_one (Some kept) m = cond (set.contains (mementos_of kept) m) 1 0

-- how many of these entries are of the original and, by what is taken for each, show the memento
abbrev pub showing_by : (Key × Kept → Option Kept) → List (Key × Kept) → List ℕ → Memento → ℕ
showing_by kept [] o m = 0
showing_by kept (e ∷ es) o m = cond (eq_by_cmp text_cmp o e.0.1) (shows_one (kept e) m) 0 + showing_by kept es o m

-- how many archives show the memento of an original
abbrev pub showing : Entries → List ℕ → Memento → ℕ
showing x o m = showing_by (λ e. Some e.1) (fmap.entries x) o m

-- how many of these entries' archives showed it before the entries came
abbrev pub shown_before : Entries → List (Key × Kept) → List ℕ → Memento → ℕ
shown_before x es o m = showing_by (λ e. fmap.get x e.0) es o m

-- and how many show it when the entries are joined
abbrev pub shown_after : Entries → List (Key × Kept) → List ℕ → Memento → ℕ
shown_after x es o m = showing_by (λ e. Some (join_at x e)) es o m

-- an archive shows the memento of an original: it stands in one of the revisions of its entry
pub record IsShowing (x : Entries) (o : List ℕ) (m : Memento) (archive : List ℕ) : Type 0 where
  pub kept : Kept
  pub stands : fmap.get x (archive, o) ≡ Some kept
  pub revision : ℕ
  pub mementos : Mementos
  pub held_there : held kept revision ≡ Some mementos
  pub has : IsTrue (set.contains mementos m)

-- these are the archives that show it, each once
pub record AreShowing (x : Entries) (o : List ℕ) (m : Memento) (archives : List (List ℕ)) : Type 0 where
  pub once : IsStrictlySortedBy text_cmp archives
  pub each : (archive : List ℕ) → Contains archives archive ↔ IsShowing x o m archive
