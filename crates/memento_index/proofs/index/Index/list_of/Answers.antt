use Rattle.std.proofs.Common.{Option, sym, ap, ◌∙◌}
use Rattle.memento_sets.specs.Sets as set
use Rattle.harvest_lattice.specs.Lattice.{Entries}
use Rattle.harvest_lattice.specs.Knowledge.{shown_of}
use Rattle.memento_index.specs.Counts.{mementos_of}
use Rattle.memento_index.specs.Tallies.{Tallied}
use Rattle.memento_index.specs.Lists.{tally_in}
use Rattle.memento_index.proofs.ListLemmas.{listed}
use Rattle.std.specs.Option.{option_copied}
use Rattle.memento_index.proofs.index.Index.list_of.Goals as goal

pub returns-in-Some : goal.returns-in-Some
returns-in-Some c =
    let o = c.args.original.now in
    c.mementos.ensures
    ∙ (ap (λ (t : Option Tallied). mementos_of (tally_in t)) (sym (ap option_copied c.in-Some.is) ∙ c.get.ensures.value)
    ∙ (listed c.self.inside.state c.self.inside.lists c.self.invariant o ∙ ap (λ (x : Entries). set.items (shown_of x o)) c.self.view_is))

pub returns-in-None : goal.returns-in-None
returns-in-None c =
    let o = c.args.original.now in
    ap (λ (t : Option Tallied). mementos_of (tally_in t)) (sym (ap option_copied c.in-None.is) ∙ c.get.ensures.value)
    ∙ (listed c.self.inside.state c.self.inside.lists c.self.invariant o ∙ ap (λ (x : Entries). set.items (shown_of x o)) c.self.view_is)
