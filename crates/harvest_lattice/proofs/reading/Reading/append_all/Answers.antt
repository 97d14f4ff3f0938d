use Rattle.std.proofs.Common.{◌++◌, sym, ap, ◌∙◌, append_assoc}
use Rattle.std.proofs.lemmas.Result.{on_ok_weaker}
use Rattle.memento_sets.specs.Sets as set
use Rattle.harvest_lattice.specs.Knowledge.{items_of}
use Rattle.harvest_lattice.proofs.Parts.{entries_of_it}
use Rattle.harvest_lattice.proofs.reading.Reading.append_all.Goals as goal

pub returns : goal.returns
returns c =
    let e = c.self.inside in
    let list = c.args.list.now.items in
    on_ok_weaker c.append_parts.result (λ is.
    is ∙ (ap (λ ms. ms ++ items_of e.later.now) (c.in_ok-append_copies.ensures ∙ ap (λ ms. list ++ ms) c.mementos.ensures)
    ∙ (append_assoc list (set.items e.first.now.1) (items_of e.later.now)
    ∙ ap (λ es. list ++ items_of es) (sym
    (entries_of_it e.is_whole e.first.now e.later.now c.args.self.now c.self.view_is c.self.invariant)))))
    c.append_parts.ensures
