use Rattle.std.proofs.Common.{◌≡◌, length, sym, ap, ◌∙◌, arith}
use Rattle.memento_index.specs.Counts.{mementos_of}
use Rattle.memento_index.specs.Tallies.{Tallied}
use Rattle.memento_index.proofs.Columns.{mementos-beside}
use Rattle.memento_index.proofs.tally.Tally.mementos.Goals as goal

pub returns : goal.returns
returns c =
    let ms = c.self.inside.mementos in
    let ns = c.self.inside.counts in
    let same : length ms.items ≡ length ns.items = omega (arith, ms.ok.0, ns.ok.0, c.self.invariant) in
    c.deref.ensures.value ∙ (sym (mementos-beside ms.items ns.items same) ∙ ap (λ (t : Tallied). mementos_of t.entries) c.self.view_is)
