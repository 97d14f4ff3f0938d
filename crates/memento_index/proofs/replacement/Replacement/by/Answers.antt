use Rattle.std.proofs.Common.{◌≡◌, [], Some, None, refl, sym, ap, subst, ◌∙◌}
use Rattle.std.specs.Arc.{arc_value}
use Rattle.std.specs.Option.{option_copied}
use Rattle.std.specs.FinMap as fmap
use Rattle.memento_sets.specs.Sets as set
use Rattle.memento_sets.specs.MementoSets.{Mementos}
use Rattle.harvest_lattice.specs.Lattice.{Kept, join_kept}
use Rattle.harvest_lattice.specs.Knowledge.{mementos_of}
use Rattle.harvest_lattice.specs.Parts.{AreOfOne}
use Rattle.harvest_lattice.specs.Rows.{row_entry, row_key}
use Rattle.memento_index.proofs.Gathering.{comes_beside, takes_place, comes_alone}
use Rattle.memento_index.proofs.replacement.Replacement.by.Goals as goal

pub returns-in_default : goal.returns-in_default
returns-in_default c =
    let x = c.args.state.now in
    let row = c.args.row.now in
    let list = c.in_ok-shown.field-0 in
    let none : fmap.get x (row_key row) ≡ None = (λ i. fmap.get x (sym c.archive.ensures i, sym c.original.ensures i))
    ∙ (sym c.entry.ensures ∙ ap option_copied c.in_default.is) in
    comes_alone x (row_entry row) [] (set.items (arc_value list)) none refl
    (ap (λ (s : Mementos). set.items s) (c.in_ok-shown.ensures ∙ ap (λ (k : Kept). mementos_of k) c.entry-entry.ensures))

pub returns-then-are_of_one : goal.returns-then-are_of_one
returns-then-are_of_one c =
    let x = c.args.state.now in
    let row = c.args.row.now in
    let a = c.in-Some.standing.now in
    let list = c.in_ok-shown-2.field-0 in
    let there : fmap.get x (row_key row) ≡ Some a =
    (λ i. fmap.get x (sym c.archive.ensures i, sym c.original.ensures i))
    ∙ (sym c.entry.ensures ∙ ap option_copied c.in-Some.is) in
    let one : AreOfOne a row.entry = subst (AreOfOne a) c.entry-entry.ensures (c.are_of_one.ensures c.if-are_of_one.true) in
    comes_beside x (row_entry row) a [] (set.items (arc_value list)) there one c.requires refl
    (ap (λ (s : Mementos). set.items s) (c.in_ok-shown-2.ensures ∙ ap (λ (k : Kept). mementos_of k) c.entry-entry.ensures))

pub returns : goal.returns
returns c =
    let x = c.args.state.now in
    let row = c.args.row.now in
    let a = c.in-Some.standing.now in
    let before = c.in_ok-shown-3.field-0 in
    let after = c.in_ok-shown_with.field-0 in
    let there : fmap.get x (row_key row) ≡ Some a =
    (λ i. fmap.get x (sym c.archive.ensures i, sym c.original.ensures i))
    ∙ (sym c.entry.ensures ∙ ap option_copied c.in-Some.is) in
    takes_place x (row_entry row) a (set.items (arc_value before)) (set.items (arc_value after)) there
    (ap (λ (s : Mementos). set.items s) c.in_ok-shown-3.ensures)
    (ap (λ (s : Mementos). set.items s) (c.in_ok-shown_with.ensures ∙ ap (λ (k : Kept). mementos_of (join_kept a k)) c.entry-entry.ensures))
