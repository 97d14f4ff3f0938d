-- A list that one archive alone shows.
use Rattle.std.proofs.Common.{◌≡◌, ℕ, ◌+◌, ◌≤◌, ◌==◌, true, false, length, List, [], ◌∷◌, ◌++◌, Box, Global, refl, sym, ap, subst, arith, ◌∙◌}
use Rattle.std.specs.Arc.{arc_value}
use Rattle.std.specs.List.{AllByRecursion, list_all}
use Rattle.std.proofs.lemmas.Bool.Decides.{Decides-eqb}
use Rattle.std.proofs.lemmas.Bool.{and_parts}
use Rattle.std.specs.List.Sorted.{IsStrictlySortedBy}
use Rattle.std.specs.declared.cmp.Ordering.TheVariants.{Less}
use Rattle.memento_time.specs.Mementos.{memento_cmp}
use Rattle.memento_time.specs.declared.mementos.Memento.{Memento}
use Rattle.memento_sets.specs.Sets as set
use Rattle.memento_sets.specs.MementoSets.{Mementos}
use Rattle.memento_sets.proofs.Ordered.{items_in_order}
use Rattle.memento_sets.proofs.Sets.{items_sorted}
use Rattle.memento_index.specs.declared.counted.Counted.{Counted}
use Rattle.memento_index.specs.declared.counted.Step.{Step}
use Rattle.memento_index.specs.declared.listing.Holding.{Holding}
use Rattle.memento_index.specs.declared.listing.Holding.TheVariants.{Nothing, Set, Columns}
use Rattle.memento_index.specs.Counts.{mementos_of, once, count_of, occurrences, beginnings, endings, AreAbove, IsTally, IsRecounted}
use Rattle.memento_index.specs.Lists.{each_step}
use Rattle.memento_index.specs.Holdings.{held_by}
use Rattle.memento_index.specs.Tallies.{Tallied, beside, each_once}
use Rattle.memento_index.proofs.Listed.{tally_sorted}

-- ---- each shown by one archive

pub mementos_once : (ms : List Memento) → mementos_of (each_once ms) ≡ ms
mementos_once [] = refl
mementos_once (m ∷ ms) = ap (λ xs. m ∷ xs) (mementos_once ms)

above_once : (m : Memento) (ms : List Memento) → AllByRecursion (λ n. memento_cmp m n ≡ Less) ms → AreAbove m (each_once ms)
above_once m [] above = tt
above_once m (n ∷ ms) above = (above.0, above_once m ms above.1)

tally_once : (ms : List Memento) → IsStrictlySortedBy memento_cmp ms → IsTally (each_once ms)
unfolding IsStrictlySortedBy
tally_once [] up = tt
tally_once (m ∷ ms) up = (omega arith, above_once m ms up.0, tally_once ms up.1)

count_once : (ms : List Memento) (x : Memento) → count_of (each_once ms) x ≡ occurrences ms x
count_once [] x = refl
count_once (m ∷ ms) x = ap (λ n. once x m + n) (count_once ms x)

-- what begins with a list that is replaced, and what ceases
all_begin : (ms : List Memento) (x : Memento) → beginnings (each_step true ms) x ≡ occurrences ms x
all_begin [] x = refl
all_begin (m ∷ ms) x = ap (λ n. once x m + n) (all_begin ms x)

none_ends : (ms : List Memento) (x : Memento) → endings (each_step true ms) x ≡ 0
none_ends [] x = refl
none_ends (m ∷ ms) x = let rest = none_ends ms x in omega (arith, rest)

pub replaced_begin : (before after : List Memento) (x : Memento) → beginnings (each_step false before ++ each_step true after) x ≡ occurrences after x
replaced_begin [] after x = all_begin after x
replaced_begin (m ∷ ms) after x = let rest = replaced_begin ms after x in omega (arith, rest)

pub replaced_end : (before after : List Memento) (x : Memento) → endings (each_step false before ++ each_step true after) x ≡ occurrences before x
replaced_end [] after x = none_ends after x
replaced_end (m ∷ ms) after x = ap (λ n. once x m + n) (replaced_end ms after x)

pub all_counted : (old : List Counted) (before : List Memento) (s : Mementos) → old ≡ each_once before
    → IsRecounted old (each_step false before ++ each_step true (set.items s)) (each_once (set.items s))
all_counted old before s is = record {
  tally = tally_once (set.items s) (items_sorted memento_cmp s);
  counts = λ x. omega (
    arith,
    ap (λ (es : List Counted). count_of es x) is,
    count_once before x,
    count_once (set.items s) x,
    replaced_begin before (set.items s) x,
    replaced_end before (set.items s) x,
  );
}

-- a count of 1 beside each
pub beside_ones : (ms : List Memento) (ns : List ℕ) → length ms ≡ length ns → list_all (λ n. n == 1) ns ≡ true → beside ms ns ≡ each_once ms
beside_ones [] ns same ones = refl
beside_ones (m ∷ ms) [] same ones = absurd (omega (arith, same))
beside_ones (m ∷ ms) (n ∷ ns) same ones =
    let one : n ≡ 1 = (Decides-eqb n 1).0 (and_parts (n == 1) (list_all (λ n. n == 1) ns) ones).0 in
    let rest = beside_ones ms ns (omega (arith, same)) (and_parts (n == 1) (list_all (λ n. n == 1) ns) ones).1 in
    ap (λ k. record { memento = m; count = k } ∷ beside ms ns) one ∙ ap (λ es. record { memento = m; count = 1 } ∷ es) rest

-- so the set of a tally's mementos lists them as they are
pub ones_as_set : (ms : List Memento) (ns : List ℕ) → length ms ≡ length ns → list_all (λ n. n == 1) ns ≡ true
    → IsTally (beside ms ns) → each_once (set.items (set.from_list {R = memento_cmp} ms)) ≡ beside ms ns
ones_as_set ms ns same ones up =
    let once : beside ms ns ≡ each_once ms = beside_ones ms ns same ones in
    let sorted : IsStrictlySortedBy memento_cmp ms = subst (λ (xs : List Memento). IsStrictlySortedBy memento_cmp xs)
    (mementos_once ms) (tally_sorted (each_once ms) (subst IsTally once up)) in
    ap (λ (xs : List Memento). each_once xs) (items_in_order ms sorted) ∙ sym once

-- a list without columns shows each memento of one archive alone, and has no room
pub without_columns : (h : Holding) → ((own : Box Tallied Global) → h ≡ Columns own → ⊥)
    → (each_once (mementos_of (held_by h).entries) ≡ (held_by h).entries) × ((held_by h).room ≡ 0)
without_columns Nothing not = (refl, refl)
without_columns (Set list) not = (ap (λ ms. each_once ms) (mementos_once (set.items (arc_value list))), refl)
without_columns (Columns own) not = absurd (not own refl)

-- where there is no room, there is nothing, and nothing comes
pub no_room : (old : List Counted) (steps : List Step) (room : ℕ) → length old + length steps ≤ room → room ≡ 0 → IsTally old → IsRecounted old steps old
no_room old [] room le is up = record { tally = up; counts = λ x. refl }
no_room old (s ∷ steps) room le is up = absurd (omega arith)
