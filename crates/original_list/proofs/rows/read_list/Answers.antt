use Rattle.std.proofs.Common.{◌≡◌, ◌<◌, ◌+◌, ◌^◌, ◌++◌, ◌∷◌, [], ℕ, List, Bor, length, map, take, subst, arith}
use Rattle.original_list.specs.declared.rows.Row.{Row}
use Rattle.original_list.specs.Rows.{row_of}
use Rattle.original_list.proofs.RowLemmas.{IsRead, read_more, rows_length, rows_more}
use Rattle.original_list.proofs.rows.read_list.Goals as goal

pub loop-place-preserved : goal.loop-place-preserved
loop-place-preserved c =
    let items = c.deref-line-items.result.now in
    let i = c.loop-place.place in
    let line : Bor (List ℕ) → List ℕ = λ l. l.now in
    let rows = map row_of (map line (take i items)) in
    let row = c.in_ok-row.row in
    let new = c.take_row.new.self in
    let at : rows ++ row ∷ [] ≡ map row_of (map line (take (i + 1) items)) = rows_more line items i _ row c.loop-place-test.true c.in_ok-row.ensures in
    let long : length rows ≡ i = rows_length line items i c.loop-place-test.true in
    let number : i + 1 ≡ length rows + 1 = omega (arith, long) in
    let small : length rows < 2 ^ 63 = omega (arith, long, c.loop-place-test.true, c.deref-line-items.type_inv) in
    subst (λ (rs : List Row). IsRead rs new) at (read_more rows row (i + 1) c.loop-place.listed new c.loop-place.invariant c.in_ok-take_row.ensures.ok number small)
