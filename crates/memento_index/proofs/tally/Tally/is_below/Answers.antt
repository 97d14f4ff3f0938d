use Rattle.std.proofs.Common.{◌≡◌, length, List, Some, refl, sym, ap, subst, ◌∙◌, ◌-◌, arith}
use Rattle.std.specs.List.{slice_get}
use Rattle.std.specs.Ordering.{is_lt}
use Rattle.memento_time.specs.declared.mementos.Memento.{Memento}
use Rattle.memento_index.specs.Counts.{mementos_of}
use Rattle.memento_index.specs.Tallies.{Tallied}
use Rattle.memento_index.proofs.Columns.{mementos-beside}
use Rattle.memento_index.proofs.Tallies.{below_last, lt_is}
use Rattle.memento_index.proofs.tally.Tally.is_below.Goals as goal

pub returns-in-Some : goal.returns-in-Some
returns-in-Some c less up =
    let ms = c.self.inside.mementos in
    let ns = c.self.inside.counts in
    let same : length ms.items ≡ length ns.items = omega (arith, ms.ok.0, ns.ok.0, c.self.invariant) in
    let items : ms.items ≡ mementos_of c.args.self.now.entries = sym (mementos-beside ms.items ns.items same)
    ∙ ap (λ (t : Tallied). mementos_of t.entries) c.self.view_is in
    let at = subst (λ (xs : List Memento). slice_get xs (length xs - 1) ≡ Some c.in-Some.last.now)
    (c.deref.ensures.value ∙ items) (sym c.in-Some.ensures.value) in
    below_last c.args.memento.now c.in-Some.last.now c.args.self.now.entries _ at refl
    (lt_is _ (ap is_lt (sym c.cmp.ensures) ∙ (sym c.is_lt.ensures ∙ less))) up
