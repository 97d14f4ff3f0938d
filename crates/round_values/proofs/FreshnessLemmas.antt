-- Which revisions have a memento, as far as they were looked at.
use Rattle.std.proofs.Common.{◌≡◌, ◌==◌, ◌||◌, ◌<◌, ◌≤◌, ◌+◌, ℕ, zero, suc, Bool, true, false, not, List, [], ◌∷◌, length, map, take, get_or, Some, sym, ap, ◌∙◌, arith}
use Rattle.std.specs.Option.{option_map}
use Rattle.std.specs.List.{list_any, slice_get}
use Rattle.std.proofs.lemmas.List.{take_all}
use Rattle.std.proofs.lemmas.List.Folds.{list_any_at, list_any_more}
use Rattle.memento_time.specs.declared.mementos.Memento.{Memento}
use Rattle.memento_sets.specs.Sets as set
use Rattle.memento_sets.specs.MementoSets.{Mementos}
use Rattle.round_values.specs.Freshness.{has_some}

none : ℕ × Mementos
none = (0, set.empty)

has_at : (es : List (ℕ × Mementos)) (k : ℕ) (items : List Memento) → option_map (λ s. set.items s) (slice_get (map (λ e. e.1) es) k) ≡ Some items
    → (has_some (get_or es k none) ≡ not (length items == 0)) × (k < length es)
has_at [] k items listed = absurd cc
has_at (e ∷ es) zero items listed =
    let items_are : set.items e.1 ≡ items = cc in
    (ap (λ (ms : List Memento). not (length ms == 0)) items_are, omega arith)
has_at (e ∷ es) (suc k) items listed =
    let rest = has_at es k items listed in
    (rest.0, omega (arith, rest.1))

-- the revision at k has one
pub found_at : (es : List (ℕ × Mementos)) (k : ℕ) (items : List Memento) → option_map (λ s. set.items s) (slice_get (map (λ e. e.1) es) k) ≡ Some items
    → not (length items == 0) ≡ true → true ≡ list_any has_some es
found_at es k items listed some =
    let at = has_at es k items listed in
    sym (list_any_at has_some es k none at.1 (at.0 ∙ some))

-- the revision at k has none, and so none up to it does
pub none_more : (es : List (ℕ × Mementos)) (k : ℕ) (items : List Memento) → option_map (λ s. set.items s) (slice_get (map (λ e. e.1) es) k) ≡ Some items
    → not (length items == 0) ≡ false → list_any has_some (take k es) ≡ false → list_any has_some (take (k + 1) es) ≡ false
none_more es k items listed empty before =
    let at = has_at es k items listed in
    list_any_more has_some es k none at.1 ∙ (λ i. before i || (at.0 ∙ empty) i)

-- none has one
pub none_at_all : (es : List (ℕ × Mementos)) (k : ℕ) → length es ≤ k → list_any has_some (take k es) ≡ false → false ≡ list_any has_some es
none_at_all es k end before = sym before ∙ ap (list_any has_some) (take_all k es end)
