-- What was read of rows, row by row.
use Rattle.std.proofs.Common.{◌≡◌, ◌<◌, ◌≤◌, ℕ, ◌+◌, ◌-◌, ◌^◌, ◌&&◌, min, Bool, true, false, cond, List}
use Rattle.std.proofs.Common.{[], ◌∷◌, ◌++◌, length, take, map, get_or, count_by, refl, sym, ap, ◌∙◌, arith, append_assoc, append-nil}
use Rattle.std.specs.Prelude.{nat_lt, if◌then◌else◌}
use Rattle.std.proofs.lemmas.Bool.Decides.{nat_tests}
use Rattle.std.proofs.lemmas.List.{flat_map_more, length-map, length-take, length-take-le, length_push, map-append, take_all, take_more, take-append-le}
use Rattle.std.proofs.lemmas.List.Sums.{count_by-le-length, sum_by-append}
use Rattle.original_list.specs.declared.rows.Listed.{Listed}
use Rattle.original_list.specs.declared.rows.Row.{Row}
use Rattle.original_list.specs.Rows.{TakesRow, bad_lines, is_bad, most_told, original_in, originals_of, row_of}

-- what was read is what these rows hold
pub record IsRead (rows : List Row) (listed : Listed) : Type 0 where
  pub originals : listed.originals.items ≡ originals_of rows
  pub bad : listed.bad.items ≡ take most_told (bad_lines 1 rows)
  pub count : listed.bad_count ≡ count_by is_bad rows

cons_if : (b : Bool) (n : ℕ) (ns : List ℕ) → (if b then n ∷ ns else ns) ≡ (if b then n ∷ [] else []) ++ ns
cons_if true n ns = refl
cons_if false n ns = refl

abbrev last_number : Row → ℕ → List ℕ
last_number row n = if is_bad row then n ∷ [] else []

bad_more : (n : ℕ) (rows : List Row) (row : Row) → bad_lines n (rows ++ row ∷ []) ≡ bad_lines n rows ++ last_number row (n + length rows)
bad_more n [] row = let same : n ≡ n + 0 = omega arith in ap (last_number row) same
bad_more n (r ∷ rows) row =
    let front : List ℕ = if is_bad r then n ∷ [] else [] in
    let back : List ℕ = last_number row (n + 1 + length rows) in
    let same : n + 1 + length rows ≡ n + length (r ∷ rows) = omega arith in
    cons_if (is_bad r) n (bad_lines (n + 1) (rows ++ row ∷ []))
    ∙ (ap (λ (ns : List ℕ). front ++ ns) (bad_more (n + 1) rows row)
    ∙ (sym (append_assoc front (bad_lines (n + 1) rows) back)
    ∙ (ap (λ (ns : List ℕ). ns ++ back) (sym (cons_if (is_bad r) n (bad_lines (n + 1) rows)))
    ∙ ap (λ (k : ℕ). bad_lines n (r ∷ rows) ++ last_number row k) same)))

abbrev with_last : Bool → List ℕ → ℕ → List ℕ
with_last b ns n = if b && nat_lt (length ns) most_told then ns ++ n ∷ [] else ns

first_few : (ns : List ℕ) (n : ℕ) (b : Bool) → nat_lt (length (take most_told ns)) most_told ≡ b
    → take most_told (ns ++ n ∷ []) ≡ (if b then take most_told ns ++ n ∷ [] else take most_told ns)
first_few ns n true h =
    let short : length ns < most_told = grind (arith, nat_tests, length-take most_told ns, h) in
    let all : take most_told ns ≡ ns = take_all most_told ns (omega (arith, short)) in
    take_all most_told (ns ++ n ∷ []) (omega (arith, short, length_push ns n)) ∙ ap (λ (xs : List ℕ). xs ++ n ∷ []) (sym all)
first_few ns n false h =
    let long : most_told ≤ length ns = grind (arith, nat_tests, length-take most_told ns, h) in
    take-append-le most_told ns (n ∷ []) long

told_more : (ns : List ℕ) (n : ℕ) (b : Bool) → take most_told (ns ++ (if b then n ∷ [] else [])) ≡ with_last b (take most_told ns) n
told_more ns n true = first_few ns n (nat_lt (length (take most_told ns)) most_told) refl
told_more ns n false = ap (λ (xs : List ℕ). take most_told xs) (append-nil ns)

abbrev counted_then : Bool → ℕ → ℕ
counted_then b n = if b then n + 1 else n

count_last : (b : Bool) (n : ℕ) → n + (0 + cond b 1 0) ≡ counted_then b n
count_last true n = omega arith
count_last false n = omega arith

count_more : (rows : List Row) (row : Row) → count_by is_bad (rows ++ row ∷ []) ≡ counted_then (is_bad row) (count_by is_bad rows)
count_more rows row = sum_by-append (λ (r : Row). cond (is_bad r) 1 0) rows (row ∷ []) ∙ count_last (is_bad row) (count_by is_bad rows)

count_then : (b : Bool) (n m : ℕ) → n ≡ m → m < 2 ^ 63 → (if b then min (n + 1) (2 ^ 64 - 1) else n) ≡ counted_then b m
count_then true n m e small = omega (arith, e, small)
count_then false n m e small = e

-- one row more
pub read_more : (rows : List Row) (row : Row) (number : ℕ) (old new : Listed) → IsRead rows old → TakesRow number row old new → number ≡ length rows + 1 → length rows < 2 ^ 63
    → IsRead (rows ++ row ∷ []) new
read_more rows row number old new read takes is small =
    let at : number ≡ 1 + length rows = omega (arith, is) in
    let few : count_by is_bad rows < 2 ^ 63 = omega (arith, count_by-le-length is_bad rows, small) in
    record {
      originals = takes.originals ∙ (ap (λ (xs : List (List ℕ)). xs ++ original_in row) read.originals ∙ flat_map_more original_in [] rows row);
      bad = takes.bad ∙ (ap (λ (ns : List ℕ). with_last (is_bad row) ns number) read.bad
          ∙ (sym (told_more (bad_lines 1 rows) number (is_bad row))
          ∙ (ap (λ (n : ℕ). take most_told (bad_lines 1 rows ++ last_number row n)) at
          ∙ ap (λ (ns : List ℕ). take most_told ns) (sym (bad_more 1 rows row)))));
      count = takes.count ∙ (count_then (is_bad row) old.bad_count (count_by is_bad rows) read.count few ∙ sym (count_more rows row));
    }

-- the rows of the first items, one item more
pub rows_more : {X : Type 0} (line : X → List ℕ) (items : List X) (i : ℕ) (d : X) (row : Row) → i < length items → row ≡ row_of (line (get_or items i d))
    → map row_of (map line (take i items)) ++ row ∷ [] ≡ map row_of (map line (take (i + 1) items))
rows_more line items i d row small is =
    let x = get_or items i d in
    ap (λ (r : Row). map row_of (map line (take i items)) ++ r ∷ []) is
    ∙ sym (ap (λ xs. map row_of (map line xs)) (take_more items i d small)
    ∙ (ap (λ (ls : List (List ℕ)). map row_of ls) (map-append line (take i items) (x ∷ [])) ∙ map-append row_of (map line (take i items)) (line x ∷ [])))

pub rows_length : {X : Type 0} (line : X → List ℕ) (items : List X) (i : ℕ) → i < length items → length (map row_of (map line (take i items))) ≡ i
rows_length line items i small = length-map (map line (take i items)) row_of ∙ (length-map (take i items) line ∙ length-take-le i items (omega (arith, small)))
