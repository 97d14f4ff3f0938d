-- The parts of the worked examples.
use Rattle.std.proofs.Common.{◌≡◌, ℕ, ◌+◌, ◌-◌, Bool, true, ◌&&◌, List, [], ◌∷◌, length, map, Option, Some, refl, sym, ap, ◌∙◌, arith}
use Rattle.std.specs.Prelude.{T, bytes_eq, codes}
use Rattle.std.specs.List.{list_any, slice_get}
use Rattle.std.specs.FinMap as fmap
use Rattle.memento_time.specs.Mementos.{memento_cmp}
use Rattle.memento_time.proofs.MementoLemmas.{memento_cmp_total, memento_cmp_exact}
use Rattle.memento_sets.specs.Sets as set
use Rattle.memento_sets.specs.MementoSets.{Mementos}
use Rattle.memento_sets.proofs.Sets.{items-from_list}
use Rattle.harvest_lattice.specs.Lattice.{Key, Kept, key_cmp}
use Rattle.harvest_lattice.specs.Parts.{PartsRise, kept_in}
use Rattle.harvest_lattice.proofs.Parts.{entries_in}
use Rattle.retention.specs.Amounts.{count, mementos, mementos_in, size, sum_sizes}
use Rattle.retention.specs.Floors.{is_from, is_young, newest}
use Rattle.retention.specs.Examples.{captured_at, captures, harvested_twice, harvested_once, harvested_in_vain, rows, known}

-- ---- of an entry

size_in : (e : ℕ × Mementos) (es : List (ℕ × Mementos)) → PartsRise (e ∷ es) → size (kept_in true e es) ≡ sum_sizes (e ∷ es)
size_in e es h = ap sum_sizes (entries_in true e es h)

newest_in : (e : ℕ × Mementos) (es : List (ℕ × Mementos)) → PartsRise (e ∷ es)
    → newest (kept_in true e es) ≡ slice_get (map (λ p. p.0) (e ∷ es)) (length (e ∷ es) - 1)
newest_in e es h =
    let parts = entries_in true e es h in
    let number : fmap.len (kept_in true e es).revisions ≡ length (e ∷ es) = fmap.len-entries _ ∙ ap length parts in
    λ i. slice_get (map (λ p. p.0) (parts i)) (number i - 1)

number_of : (seconds : List ℕ) → T (fmap.is_sorted memento_cmp (set.as_keys (map captured_at seconds)))
    → length (set.items (captures seconds)) ≡ length (map captured_at seconds)
number_of seconds h = ap length (items-from_list memento_cmp_total memento_cmp_exact (map captured_at seconds) h)

abbrev later : List (ℕ × Mementos)
later = (200, captures (2 ∷ [])) ∷ []

pub size_twice : size harvested_twice ≡ 3
size_twice = size_in (100, captures (1 ∷ 2 ∷ [])) later tt ∙ (λ i. number_of (1 ∷ 2 ∷ []) tt i + (number_of (2 ∷ []) tt i + 0))

pub size_once : size harvested_once ≡ 2
size_once = size_in (150, captures (3 ∷ 4 ∷ [])) [] tt ∙ (λ i. number_of (3 ∷ 4 ∷ []) tt i + 0)

pub size_in_vain : size harvested_in_vain ≡ 0
size_in_vain = size_in (300, captures []) [] tt ∙ (λ i. number_of [] tt i + 0)

pub newest_twice : newest harvested_twice ≡ Some 200
newest_twice = newest_in (100, captures (1 ∷ 2 ∷ [])) later tt

pub newest_once : newest harvested_once ≡ Some 150
newest_once = newest_in (150, captures (3 ∷ 4 ∷ [])) [] tt

newest_in_vain : newest harvested_in_vain ≡ Some 300
newest_in_vain = newest_in (300, captures []) [] tt

-- ---- of the state

known_rows : fmap.entries known ≡ rows
known_rows = fmap.entries-from_sorted key_cmp rows tt

pub count_known : count known ≡ 3
count_known = ap length known_rows

pub mementos_known : mementos known ≡ 5
mementos_known = ap mementos_in known_rows ∙ (λ i. size_twice i + (size_once i + (size_in_vain i + 0)))

abbrev newest_by_original : List (List ℕ × Option ℕ)
newest_by_original = (codes "x", Some 200) ∷ (codes "x", Some 150) ∷ (codes "y", Some 300) ∷ []

pub young_known : (floor : ℕ) (original : List ℕ)
    → is_young floor known original ≡ list_any (λ (r : List ℕ × Option ℕ). bytes_eq r.0 original && is_from floor r.1) newest_by_original
young_known floor original =
    let young : Key × Kept → Bool = λ e. bytes_eq e.0.1 original && is_from floor (newest e.1) in
    ap (list_any young) known_rows
    ∙ (λ i. list_any (λ (r : List ℕ × Option ℕ). bytes_eq r.0 original && is_from floor r.1)
    ((codes "x", newest_twice i) ∷ (codes "x", newest_once i) ∷ (codes "y", newest_in_vain i) ∷ []))

pub count_empty : count fmap.empty ≡ 0
count_empty = sym (fmap.len-entries fmap.empty) ∙ fmap.len-empty key_cmp Kept

of_none : (es : List (Key × Kept)) → length es ≡ 0 → mementos_in es ≡ 0
of_none [] is = refl
of_none (e ∷ es) is = absurd (omega (arith, is))

pub mementos_empty : mementos fmap.empty ≡ 0
mementos_empty = of_none _ count_empty
