use Rattle.std.proofs.Common.{List, sym, ap, subst, ◌∙◌}
use Rattle.std.specs.List.Sorted.{IsStrictlySortedBy}
use Rattle.memento_time.specs.Mementos.{memento_cmp}
use Rattle.memento_time.specs.declared.mementos.Memento.{Memento}
use Rattle.memento_sets.specs.Sets as set
use Rattle.memento_sets.specs.MementoSets.{Mementos}
use Rattle.memento_sets.proofs.Sets.{items_sorted}
use Rattle.harvest_lattice.specs.Knowledge.{shown, shown_of}
use Rattle.memento_index.specs.Choice.{last}
use Rattle.memento_index.proofs.ListLemmas.{from_items}
use Rattle.memento_index.proofs.index.Index.latest.Goals as goal

pub last_of-requires : goal.last_of-requires
last_of-requires c = subst (λ (ms : List Memento). IsStrictlySortedBy memento_cmp ms) (sym c.list.ensures.list)
    (items_sorted memento_cmp (shown_of c.args.self.now c.args.original.now))

pub returns-clause-last : goal.returns-clause-last
returns-clause-last c =
    let s = shown_of c.args.self.now c.args.original.now in
    c.last_of.ensures ∙ (ap (λ (ms : List Memento). last (set.from_list ms)) c.list.ensures.list ∙ ap (λ (t : Mementos). last t) (from_items s))

pub returns-clause-stands : goal.returns-clause-stands
returns-clause-stands c hs is =
    let s = shown hs c.args.original.now in
    c.last_of.ensures ∙ (ap (λ (ms : List Memento). last (set.from_list ms)) (c.list.ensures.stands hs is) ∙ ap (λ (t : Mementos). last t) (from_items s))
