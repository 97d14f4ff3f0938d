use Rattle.std.proofs.Common.{◌≡◌, ◌++◌, List, [], map, sym, ap, subst, ◌∙◌}
use Rattle.std.specs.Prelude.{T}
use Rattle.std.proofs.lemmas.List.{append-nil}
use Rattle.std.specs.FinMap as fmap
use Rattle.harvest_lattice.specs.Lattice.{Key, Kept, Entries, join}
use Rattle.harvest_lattice.specs.Rows.{row_entry, keys_rise}
use Rattle.harvest_lattice.proofs.Made.{map_of_entries}
use Rattle.harvest_lattice.proofs.RowLemmas.{join_empty}
use Rattle.harvest_lattice.proofs.state.State.share_state.Goals as goal

-- the rows are the entries of the other state
rows_are : (es left all : List (Key × Kept)) → left ≡ [] → es ++ left ≡ all → es ≡ all
rows_are es left all none is = sym (append-nil es) ∙ (ap (λ rest. es ++ rest) (sym none) ∙ is)

pub join_rows-requires : goal.join_rows-requires
join_rows-requires c =
    let y = c.args.other.now in
    subst (λ (es : List (Key × Kept)). T (keys_rise es))
    (sym (rows_are (map row_entry c.loop-row.rows.items) c.loop-row.row-iterator (fmap.entries y) c.in-None.ensures.steps.0 c.loop-row.invariant))
    (fmap.entries_sorted y)

pub returns : goal.returns
returns c =
    let y = c.args.other.now in
    let none = c.new-copy.result in
    let es = map row_entry c.loop-row.rows.items in
    c.in_ok-join_rows.ensures.ok
    ∙ (ap (λ (es : List (Key × Kept)). join none (fmap.from_entries es)) (rows_are es c.loop-row.row-iterator (fmap.entries y) c.in-None.ensures.steps.0 c.loop-row.invariant)
    ∙ (ap (join none) (map_of_entries y)
    ∙ (ap (λ (x : Entries). join x y) c.new-copy.ensures ∙ join_empty y)))
