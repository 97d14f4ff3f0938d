use Rattle.std.proofs.Common.{sym, ap, ◌∙◌}
use Rattle.memento_sets.specs.Sets as set
use Rattle.memento_sets.specs.MementoSets.{Mementos}
use Rattle.harvest_lattice.specs.Lattice.{Entries}
use Rattle.harvest_lattice.specs.Knowledge.{shown_of}
use Rattle.harvest_lattice.proofs.KnowledgeShown.{shown-lat}
use Rattle.memento_index.proofs.index.Index.list.Goals as goal

pub returns-clause-stands : goal.returns-clause-stands
returns-clause-stands c hs is =
    let o = c.args.original.now in
    c.list_of.ensures ∙ (ap (λ (x : Entries). set.items (shown_of x o)) is ∙ ap (λ (s : Mementos). set.items s) (sym (shown-lat hs o)))
