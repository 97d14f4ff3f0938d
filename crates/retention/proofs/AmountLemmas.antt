-- Sums over revisions, and how much of a state is unlisted.
use Rattle.std.proofs.Common.{◌≡◌, ℕ, ◌+◌, zero, suc, List, [], ◌∷◌, length, map, drop, get_or, Option, Some, None, refl, ap, ◌∙◌, arith}
use Rattle.std.specs.Option.{option_map}
use Rattle.std.specs.List.{filter, slice_get}
use Rattle.std.specs.FinMap as fmap
use Rattle.std.proofs.lemmas.List.{drop_more}
use Rattle.std.proofs.lemmas.Option.{slice_get_within, get_or_from_slice_get}
use Rattle.memento_time.specs.declared.mementos.Memento.{Memento}
use Rattle.memento_sets.specs.Sets as set
use Rattle.memento_sets.specs.MementoSets.{Mementos}
use Rattle.harvest_lattice.specs.Lattice.{Key, Kept, Entries}
use Rattle.retention.specs.Amounts.{sum_sizes, count, mementos, mementos_in}
use Rattle.retention.specs.Restriction.{Rule, restrict}
use Rattle.retention.proofs.RestrictionLemmas.{entries-restrict}

-- these mementos stand at k
record IsAt (es : List (ℕ × Mementos)) (k : ℕ) (items : List Memento) : Type 0 where
  part : ℕ × Mementos
  at : slice_get es k ≡ Some part
  items_are : set.items part.1 ≡ items

part_at : (es : List (ℕ × Mementos)) (k : ℕ) (items : List Memento) → option_map (λ s. set.items s) (slice_get (map (λ e. e.1) es) k) ≡ Some items
    → IsAt es k items
part_at [] k items listed = absurd cc
part_at (e ∷ es) zero items listed =
    let items_are : set.items e.1 ≡ items = cc in
    record { part = e; at = refl; items_are = items_are }
part_at (e ∷ es) (suc k) items listed =
    let rest = part_at es k items listed in
    record { part = rest.part; at = rest.at; items_are = rest.items_are }

-- one revision less is left
pub sizes_at : (es : List (ℕ × Mementos)) (k : ℕ) (items : List Memento) → option_map (λ s. set.items s) (slice_get (map (λ e. e.1) es) k) ≡ Some items
    → sum_sizes (drop k es) ≡ length items + sum_sizes (drop (k + 1) es)
sizes_at es k items listed =
    let its = part_at es k items listed in
    ap sum_sizes (drop_more es k its.part (slice_get_within es k its.part its.at))
    ∙ (λ i. sum_sizes (get_or_from_slice_get es k its.part its.part its.at i ∷ drop (k + 1) es))
    ∙ (λ i. length (its.items_are i) + sum_sizes (drop (k + 1) es))

abbrev where_kept : Rule → List (Key × Kept) → List (Key × Kept)
where_kept k es = filter (λ (e : Key × Kept). k e.0) es

-- once no entry is left, all that the rule keeps is counted
pub all_counted : (k : Rule) (x : Entries) (left : List (Key × Kept)) (n : ℕ) → left ≡ [] → n + length (where_kept k left) ≡ length (where_kept k (fmap.entries x))
    → n ≡ count (restrict k x)
all_counted k x left n none is =
    let end : length (where_kept k left) ≡ 0 = ap (λ (es : List (Key × Kept)). length (where_kept k es)) none in
    let all : length (fmap.entries (restrict k x)) ≡ length (where_kept k (fmap.entries x)) = ap (λ (es : List (Key × Kept)). length es) (entries-restrict k x) in
    omega (arith, is, end, all)

pub all_summed : (k : Rule) (x : Entries) (left : List (Key × Kept)) (n : ℕ) → left ≡ []
    → n + mementos_in (where_kept k left) ≡ mementos_in (where_kept k (fmap.entries x)) → n ≡ mementos (restrict k x)
all_summed k x left n none is =
    let end : mementos_in (where_kept k left) ≡ 0 = ap (λ (es : List (Key × Kept)). mementos_in (where_kept k es)) none in
    let all : mementos_in (fmap.entries (restrict k x)) ≡ mementos_in (where_kept k (fmap.entries x)) = ap mementos_in (entries-restrict k x) in
    omega (arith, is, end, all)
